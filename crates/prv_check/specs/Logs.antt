-- Which logs are accepted, and where a log that isn't has its first fault.
use Rattle.std.specs.Prelude.{Option, None, Some, ◌≡◌, ℕ, ◌<◌, ◌⊎◌, ⊤, Bool, false, List, [], ◌∷◌, length, take, slice_get, IsTrue, IsFalse}
use Rattle.std.specs.Option.{option_and_then}
use Rattle.prv_cnf.specs.Formulas.{Formula}
use Rattle.prv_check.specs.LogLines.{LogLine}
use Rattle.prv_check.specs.Lines.{line_fault, is_empty}
use Rattle.prv_check.specs.declared.fault.CheckError.{CheckError}
use Rattle.prv_check.specs.declared.fault.CheckError.TheVariants.{Refused, Memory}
use Rattle.prv_check.specs.declared.fault.LineWhy.{LineWhy}
use Rattle.prv_check.specs.declared.fault.LineWhy.TheVariants.{NoEmpty}

-- the fault that a test of a line, after the earlier ones, finds in the line at k
abbrev pub fault_at : (List LogLine → LogLine → Option LineWhy) → List LogLine → ℕ → Option LineWhy
fault_at test log k = option_and_then (λ s. test (take k log) s) (slice_get log k)

-- the test finds no fault in any line
abbrev pub IsFaultless : (List LogLine → LogLine → Option LineWhy) → List LogLine → Type 0
IsFaultless test log = (k : ℕ) → fault_at test log k ≡ None

-- the line at k has this fault, and no line before has one
abbrev pub IsFirstFault : (List LogLine → LogLine → Option LineWhy) → List LogLine → ℕ → LineWhy → Type 0
IsFirstFault test log k why = (fault_at test log k ≡ Some why) × ((j : ℕ) → j < k → fault_at test log j ≡ None)

-- the last line is the empty clause
abbrev pub ends_empty : List LogLine → Bool
ends_empty [] = false
ends_empty (s ∷ []) = is_empty s.clause
ends_empty (s ∷ (t ∷ log)) = ends_empty (t ∷ log)

-- each line follows from the formula and the lines before it, and the last is the empty clause
abbrev pub IsAccepted : Formula → List LogLine → Type 0
IsAccepted f log = IsFaultless (line_fault f) log × IsTrue (ends_empty log)

-- what refuses a log: the first line with a fault, or else that it doesn't end with the empty clause
abbrev pub IsRefused : Formula → List LogLine → ℕ → LineWhy → Type 0
IsRefused f log k why =
    IsFirstFault (line_fault f) log k why
    ⊎ (IsFaultless (line_fault f) log × IsFalse (ends_empty log) × (k ≡ length log) × (why ≡ NoEmpty))

-- why a log isn't accepted: it is refused, or memory ran out, which is tied to nothing
abbrev pub IsCause : (ℕ → LineWhy → Type 0) → CheckError → Type 0
IsCause refused (Refused k why) = refused k why
IsCause refused Memory = ⊤
