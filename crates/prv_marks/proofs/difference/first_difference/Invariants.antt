use Rattle.std.proofs.Common.{◌≡◌, ℕ, ◌<◌}
use Rattle.prv_marks.specs.Skeletons.{item_at}
use Rattle.prv_marks.proofs.difference.first_difference.Given as goal

abbrev pub invariant-loop-i : goal.invariant-loop-i
invariant-loop-i l = (k : ℕ) → k < l.i → item_at l.before k ≡ item_at l.after k
