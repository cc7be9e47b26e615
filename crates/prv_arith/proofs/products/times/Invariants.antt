use Rattle.std.proofs.Common.{◌≡◌, drop}
use Rattle.prv_arith.specs.Products.{times}
use Rattle.prv_arith.proofs.products.times.Given as goal

abbrev pub invariant-loop-i : goal.invariant-loop-i
invariant-loop-i l = record { out = l.product; circuit = l.builder } ≡ times l.xs (drop l.i l.ys) l.initial.builder
