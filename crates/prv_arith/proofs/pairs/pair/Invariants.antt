use Rattle.std.proofs.Common.{◌≡◌, drop}
use Rattle.prv_arith.specs.Pairs.{paired}
use Rattle.prv_arith.proofs.pairs.pair.Given as goal

abbrev pub invariant-loop-i : goal.invariant-loop-i
invariant-loop-i l = record { out = drop l.i l.out; circuit = l.builder } ≡ paired l.gate (drop l.i l.xs) (drop l.i l.ys) l.initial.builder
