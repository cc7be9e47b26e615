use Rattle.std.proofs.Common.{◌≡◌, ◌-◌, ◌^◌, drop}
use Rattle.prv_arith.specs.Shifts.{shifted_up}
use Rattle.prv_arith.proofs.shifts.shift_up.Given as goal

abbrev pub invariant-loop-i : goal.invariant-loop-i
invariant-loop-i l = record {
  run : record { out = l.moved; circuit = l.builder } ≡ shifted_up (drop l.i l.amount) l.bits l.initial.builder;
  by : l.by ≡ 2 ^ (5 - l.i);
}
