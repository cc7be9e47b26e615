use Rattle.std.proofs.Common.{◌≡◌}
use Rattle.prv_select.specs.Choices.{rising_below}
use Rattle.prv_select.specs.MarkSets.{has_mark}
use Rattle.prv_select.proofs.choice.marks_below.Given as goal

-- the marks so far
abbrev pub invariant-loop-mark : goal.invariant-loop-mark
invariant-loop-mark l = l.rising ≡ rising_below (λ m. has_mark l.marks m) l.mark
