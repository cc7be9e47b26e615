use Rattle.std.proofs.Common.{◌≡◌, ◌++◌, nat_eq}
use Rattle.std.specs.List.{list_any}
use Rattle.prv_select.specs.Choices.{rising_below}
use Rattle.prv_settle.proofs.partition.marks_of.Given as goal

abbrev pub invariant-loop-mark : goal.invariant-loop-mark
invariant-loop-mark l = l.marks.items ≡ rising_below (λ mark. list_any (nat_eq mark) (l.before ++ l.after)) l.mark
