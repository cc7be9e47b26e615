use Rattle.prv_pool.proofs.FoldLaws.{folded-term}
use Rattle.prv_blast.proofs.Pools.{at-known}
use Rattle.prv_blast.proofs.Pools.{known-where}
use Rattle.prv_rows.proofs.nodes.op.Goals as goal

pub returns : goal.returns
returns c = record { known = known-where _ c.args.pool.now c.op.new.self c.op.result c.op.ensures (folded-term 8 c.args.op _ _ (at-known c.args.a c.args.pool.now.terms c.requires.known c.requires.first) (at-known c.args.b c.args.pool.now.terms c.requires.known c.requires.second)) c.requires.known }
