-- When a budget of lines and numbers was spent on a log: each line adds something, and the budget is
-- used up or the next line would pass it.
use Rattle.std.specs.Prelude.{Option, ◌≡◌, ℕ, ◌+◌, ◌<◌, ◌≤◌, nat_eq, Bool, true, not, ◌&&◌, List, [], ◌∷◌, length, take, slice_get, IfSome, IsTrue, MatchOption}
use Rattle.std.specs.List.{list_any}
use Rattle.prv_cnf.specs.Formulas.{Formula}
use Rattle.prv_check.specs.LogLines.{LogLine, line_numbers}
use Rattle.prv_check.specs.Lines.{Follows}
use Rattle.prv_check.specs.Freshness.{IsFresh}

-- no number stands twice
abbrev pub are_distinct : List ℕ → Bool
are_distinct [] = true
are_distinct (n ∷ ns) = not (list_any (nat_eq n) ns) && are_distinct ns

-- a line that is worth its numbers: it follows, is fresh, and names no clause twice among its hints
pub record IsLearnt (f : Formula) (earlier : List LogLine) (s : LogLine) : Type 0 where
  pub follows : Follows f earlier s
  pub fresh : IsFresh f earlier s
  pub distinct : IsTrue (are_distinct s.hints)

-- each line of the log is worth its numbers
abbrev pub AreLearnt : Formula → List LogLine → Type 0
AreLearnt f log = (k : ℕ) → IfSome (slice_get log k) (IsLearnt f (take k log))

-- how many numbers it takes to write the lines down
abbrev pub log_numbers : List LogLine → ℕ
log_numbers [] = 0
log_numbers (s ∷ log) = line_numbers s + log_numbers log

-- a budget of so many lines and numbers was spent on a log of lines that are worth their numbers:
-- it has all the lines, or a further line worth its numbers would bring it past the numbers
pub record IsSpent (f : Formula) (log : List LogLine) (next : Option LogLine) (lines numbers : ℕ) : Type 0 where
  pub learnt : AreLearnt f log
  pub within : log_numbers log ≤ numbers
  pub reached : MatchOption next (length log ≡ lines) (λ s. IsLearnt f log s × (numbers < log_numbers log + line_numbers s))
