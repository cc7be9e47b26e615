use Rattle.prv_pool.specs.Folding.{folded}
use Rattle.prv_pool.proofs.FoldLaws.{folded-term}
use Rattle.prv_blast.proofs.Pools.{at-known, known-where, longer-where, there-where}
use Rattle.prv_blast.proofs.tests.op.Goals as goal

pub returns-clause-known : goal.returns-clause-known
returns-clause-known c =
    let first = at-known c.args.a c.args.pool.now.terms c.requires.known c.requires.first in
    let second = at-known c.args.b c.args.pool.now.terms c.requires.known c.requires.second in
    known-where _ c.args.pool.now c.op.new.self c.op.result c.op.ensures (folded-term 8 c.args.op _ _ first second) c.requires.known

pub returns-clause-longer : goal.returns-clause-longer
returns-clause-longer c = longer-where _ c.args.pool.now c.op.new.self c.op.result c.op.ensures

pub returns-clause-there : goal.returns-clause-there
returns-clause-there c = there-where _ c.args.pool.now c.op.new.self c.op.result c.op.ensures
