use Rattle.std.proofs.Common.{◌≡◌, ◌-◌, ◌^◌, drop}
use Rattle.prv_arith.specs.Shifts.{shifted_down}
use Rattle.prv_arith.proofs.shifts.shift_down.Given as goal

abbrev pub invariant-loop-i : goal.invariant-loop-i
invariant-loop-i l = record {
  run : record { out = l.moved; circuit = l.builder } ≡ shifted_down l.filling (drop l.i l.amount) l.bits l.initial.builder;
  by : l.by ≡ 2 ^ (5 - l.i);
}
