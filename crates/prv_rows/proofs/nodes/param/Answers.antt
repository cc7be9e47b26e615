use Rattle.std.proofs.lemmas.Bool.{lt-ltb}
use Rattle.prv_blast.proofs.Pools.{param-term}
use Rattle.prv_blast.proofs.Pools.{known-where}
use Rattle.prv_rows.proofs.nodes.param.Goals as goal

pub returns : goal.returns
returns c = record { known = known-where _ c.args.pool.now c.param.new.self c.param.result c.param.ensures (param-term 8 c.args.k (lt-ltb c.args.k 8 c.requires.few)) c.requires.known }
