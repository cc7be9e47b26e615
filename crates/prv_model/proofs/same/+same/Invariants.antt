use Rattle.std.proofs.Common.{◌≡◌, length, take}
use Rattle.prv_model.proofs.same.+same.Given as goal

abbrev pub invariant-same_body-loop-i : goal.invariant-same_body-loop-i
invariant-same_body-loop-i l = record { lengths : length l.a ≡ length l.b; front : take l.i l.a ≡ take l.i l.b }
