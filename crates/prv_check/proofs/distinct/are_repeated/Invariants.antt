use Rattle.std.proofs.Common.{◌≡◌, ℕ, true, false, length, take}
use Rattle.std.specs.Prelude.{nat_eq, slice_index_or}
use Rattle.std.specs.List.{list_any}
use Rattle.prv_check.specs.Spending.{are_distinct}
use Rattle.prv_check.proofs.distinct.are_repeated.Given as goal

abbrev pub invariant-loop-hint : goal.invariant-loop-hint
invariant-loop-hint l =
    (are_distinct (take l.hint-index l.hints) ≡ true)
    × ((n : ℕ) → slice_index_or l.named n false ≡ list_any (nat_eq n) (take l.hint-index l.hints))
    × (length l.named ≡ length l.fn.named)
