-- The marks of a version, in the order of the text.
use Rattle.std.specs.Prelude.{◌≡◌, ◌≢◌, ℕ, ◌<◌, List, length, Option, Some, slice_get, find}
use Rattle.std.specs.Option.{option_map}
use Rattle.prv_names.specs.declared.version.MarkAt.{MarkAt}

-- the number of the mark at i, counted from 0
abbrev pub number_at : List MarkAt → ℕ → Option ℕ
number_at marks i = option_map (λ m. m.mark) (slice_get marks i)

-- no two of the first n marks have one number
abbrev pub DifferBelow : ℕ → List MarkAt → Type 0
DifferBelow n marks = (i j : ℕ) → i < j → j < n → number_at marks i ≢ number_at marks j

-- each number is used once at most
abbrev pub AreUsedOnce : List MarkAt → Type 0
AreUsedOnce marks = DifferBelow (length marks) marks

-- the number is used twice, and before its second use no number is
pub record IsUsedTwice (marks : List MarkAt) (number : ℕ) : Type 0 where
  pub first : ℕ
  pub second : ℕ
  pub in_order : first < second
  pub used : number_at marks first ≡ Some number
  pub again : number_at marks second ≡ Some number
  pub once_before : DifferBelow second marks

-- the place of the first mark that stands inside another, if there is one
abbrev pub first_inner : List MarkAt → Option ℕ
first_inner marks = option_map (λ m. m.place) (find (λ m. m.inside) marks)
