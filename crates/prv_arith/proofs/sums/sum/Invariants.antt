use Rattle.std.proofs.Common.{◌≡◌, drop}
use Rattle.prv_arith.specs.Sums.{summed}
use Rattle.prv_arith.proofs.sums.sum.Given as goal

abbrev pub invariant-loop-i : goal.invariant-loop-i
invariant-loop-i l = record { out = (l.carried, drop l.i l.out); circuit = l.builder } ≡ summed l.fn.carry (drop l.i l.xs) (drop l.i l.ys) l.initial.builder
