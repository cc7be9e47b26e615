use Rattle.std.proofs.Common.{◌≡◌, length, take}
use Rattle.prv_model.proofs.same.same_names.Given as goal

abbrev pub invariant-loop-i : goal.invariant-loop-i
invariant-loop-i l = record { lengths : length l.a ≡ length l.b; front : take l.i l.a ≡ take l.i l.b }
