use Rattle.std.proofs.Common.{◌≡◌, drop}
use Rattle.prv_arith.specs.Lists.{opposites}
use Rattle.prv_arith.proofs.sums.flip.Given as goal

abbrev pub invariant-loop-i : goal.invariant-loop-i
invariant-loop-i l = drop l.i l.out ≡ opposites (drop l.i l.bits)
