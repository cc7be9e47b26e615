-- Where the log of a proof has its first bad line.
use Rattle.std.specs.Prelude.{Option, ◌≡◌, ◌⊎◌, ⊤, ℕ, ◌<◌, List, length, take, slice_get, IfSome, MatchOption, IsTrue, IsFalse}
use Rattle.prv_cnf.specs.Formulas.{Formula}
use Rattle.prv_check.specs.LogLines.{LogLine}
use Rattle.prv_check.specs.Lines.{Follows}
use Rattle.prv_check.specs.Logs.{ends_empty}
use Rattle.prv_check.specs.Spending.{are_distinct, IsLearnt, AreLearnt}
use Rattle.prv_check.specs.declared.fault.RefutationError.{RefutationError}
use Rattle.prv_check.specs.declared.fault.RefutationError.TheVariants as refutation
use Rattle.prv_check.specs.declared.fault.SpentError.{SpentError}
use Rattle.prv_check.specs.declared.fault.SpentError.TheVariants as spent

-- a line follows, and names no clause twice among its hints
pub record IsDerived (f : Formula) (earlier : List LogLine) (s : LogLine) : Type 0 where
  pub follows : Follows f earlier s
  pub distinct : IsTrue (are_distinct s.hints)

-- each of the first n lines has a property, after the lines before it
abbrev pub AreGood : (List LogLine → LogLine → Type 0) → List LogLine → ℕ → Type 0
AreGood Good log n = (k : ℕ) → k < n → IfSome (slice_get log k) (Good (take k log))

-- the line at k is the first that has not the property
pub record IsFirstBad (Good : List LogLine → LogLine → Type 0) (log : List LogLine) (k : ℕ) : Type 0 where
  pub before : AreGood Good log k
  pub bad : MatchOption (slice_get log k) ⊥ (λ s. Good (take k log) s → ⊥)

-- why a log is no refutation: its first bad line, or else that it doesn't end with the empty clause; or memory ran out, which is tied to nothing
abbrev pub IsUnrefuting : Formula → List LogLine → RefutationError → Type 0
IsUnrefuting f log (refutation.BadLine k) = IsFirstBad (IsDerived f) log k
IsUnrefuting f log refutation.NoEmpty = AreGood (IsDerived f) log (length log) × IsFalse (ends_empty log)
IsUnrefuting f log refutation.Memory = ⊤

-- why a log with a further line isn't one that a budget was spent on: its first bad line, or else the further line, at the count of lines; or memory ran out, which is tied to nothing
abbrev pub IsUnspent : Formula → List LogLine → Option LogLine → SpentError → Type 0
IsUnspent f log next (spent.BadLine k) =
    IsFirstBad (IsLearnt f) log k
    ⊎ (AreLearnt f log × (k ≡ length log) × (IfSome next (IsLearnt f log) → ⊥))
IsUnspent f log next spent.Memory = ⊤
