-- What the solver may answer.
use Rattle.std.specs.Prelude.{◌≡◌, ℕ, ◌+◌, ◌*◌, ◌-◌, ◌^◌, ◌<◌, ◌≤◌, ⊤, List, length, take, IfSome}
use Rattle.prv_cnf.specs.Formulas.{Formula}
use Rattle.prv_cnf.specs.Models.{IsModel, values_of}
use Rattle.prv_check.specs.LogLines.{LogLine}
use Rattle.prv_check.specs.Logs.{IsAccepted}
use Rattle.prv_check.specs.Spending.{IsSpent, log_numbers}
use Rattle.prv_check.specs.Bounds.{HasDistinctHints}
use Rattle.prv_sat.specs.declared.found.Found.{Found}
use Rattle.prv_sat.specs.declared.found.Found.TheVariants.{Values, Refuted, Spent}

-- a log that refutes the formula, within a budget of lines, and of numbers for the lines before the last
pub record IsRefutation (f : Formula) (log : List LogLine) (lines numbers : ℕ) : Type 0 where
  pub accepted : IsAccepted f log
  pub lines_within : length log ≤ lines
  pub numbers_within : log_numbers (take (length log - 1) log) ≤ numbers
  pub distinct : HasDistinctHints log

-- one value for each variable, which satisfy the formula; or a log that refutes it; or a log on which
-- the budget was spent: it has all the lines, or fewer where a further line would pass the numbers
abbrev pub IsFound : Formula → ℕ → ℕ → Found → Type 0
IsFound f lines numbers (Values v) = (length v.items ≡ f.vars) × IsModel (values_of v.items) f
IsFound f lines numbers (Refuted log) = IsRefutation f log lines numbers
IsFound f lines numbers (Spent log next) = IsSpent f log next lines numbers × IfSome next (λ s. length log < lines)

-- a budget that suffices for each line that is worth its numbers: over v variables there are fewer than
-- 3^v of them
pub record IsAmple (f : Formula) (lines numbers : ℕ) : Type 0 where
  pub enough_lines : 3 ^ f.vars ≤ lines
  pub enough_numbers : 3 ^ f.vars * (f.vars + length f.clauses + 3 ^ f.vars + 2) ≤ numbers

-- the budget was not spent
abbrev pub IsDecided : Found → Type 0
IsDecided (Values v) = ⊤
IsDecided (Refuted log) = ⊤
IsDecided (Spent log next) = ⊥
