use Rattle.std.proofs.Common.{arith}
use Rattle.prv_settle.proofs.Halving.{halves-are}
use Rattle.prv_sym.proofs.Naming.{made-in}
use Rattle.prv_settle.proofs.halves.halve.Goals as goal

pub decided-requires-clause-room : goal.decided-requires-clause-room
decided-requires-clause-room c = omega (arith, c.requires.room.free)

pub negated-requires-clause-node : goal.negated-requires-clause-node
negated-requires-clause-node c = made-in _ _ _ _ c.in_ok-first.ensures.makes

pub negated-requires-clause-room : goal.negated-requires-clause-room
negated-requires-clause-room c = omega (arith, c.requires.room.free, c.in_ok-first.ensures.few, c.in_ok-first.ensures.makes.limit)

pub returns : goal.returns
returns c = λ pair region t h same stands.
    halves-are pair region t c.args.cut _ _ c.args.equality _ _ c.args.agree c.in_ok-first.ensures.makes c.in_ok-second.ensures.makes c.requires.room c.in_ok-first.ensures.few c.in_ok-second.ensures.few h same stands
