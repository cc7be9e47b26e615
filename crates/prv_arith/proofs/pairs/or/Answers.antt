use Rattle.prv_arith.proofs.GateLaws.{or-of-and}
use Rattle.prv_arith.proofs.pairs.or.Goals as goal

pub returns-clause-gives : goal.returns-clause-gives
returns-clause-gives c =
    or-of-and c.args.a c.args.b c.negated.result c.negated-2.result c.negated-3.result c.in_ok-neither.neither c.args.builder.now c.and.new.self
    c.negated.ensures.value c.negated-2.ensures.value c.negated-3.ensures.value c.requires.first c.requires.second c.in_ok-neither.ensures.gives
