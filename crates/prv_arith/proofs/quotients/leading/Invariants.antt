use Rattle.std.proofs.Common.{◌≡◌, ◌+◌, drop}
use Rattle.prv_arith.specs.Lists.{leading}
use Rattle.prv_arith.proofs.quotients.leading.Given as goal

abbrev pub invariant-loop-i : goal.invariant-loop-i
invariant-loop-i l = leading l.builder.known l.bits ≡ l.i + leading l.builder.known (drop l.i l.bits)
