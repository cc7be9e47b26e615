use Rattle.std.proofs.Common.{◌≡◌, drop}
use Rattle.prv_arith.specs.Orders.{less}
use Rattle.prv_arith.proofs.orders.less.Given as goal

abbrev pub invariant-loop-i : goal.invariant-loop-i
invariant-loop-i l = record { out = l.is_less; circuit = l.builder } ≡ less (drop l.i l.xs) (drop l.i l.ys) l.initial.builder
