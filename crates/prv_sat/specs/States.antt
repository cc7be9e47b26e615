-- The state of the solver between two conflicts.
use Rattle.std.specs.Prelude.{◌≡◌, ℕ, ◌≤◌, List, [], length}
use Rattle.prv_cnf.specs.Formulas.{Formula}
use Rattle.prv_cnf.specs.Models.{IsModel, values_of}
use Rattle.prv_check.specs.LogLines.{LogLine}
use Rattle.prv_check.specs.Lines.{known}
use Rattle.prv_check.specs.Spending.{AreLearnt, log_numbers}
use Rattle.prv_propagate.specs.Trails.{Trailing}
use Rattle.prv_propagate.specs.Watching.{Watching}
use Rattle.prv_propagate.specs.Soundness.{IsSound, ArePropagated, IsConflict}
use Rattle.prv_sat.specs.declared.search.Outcome.{Outcome}
use Rattle.prv_sat.specs.declared.search.Outcome.TheVariants.{Values, Conflict}
use Rattle.prv_sat.specs.Marking.{Marking}

-- the trail and the watches are of the formula and the lines
pub record IsState (f : Formula) (lines : List LogLine) (t : Trailing) (w : Watching) : Type 0 where
  pub sound : IsSound (known f lines) t w
  pub vars : t.vars ≡ f.vars

-- so many steps were propagated
pub record IsReady (f : Formula) (lines : List LogLine) (t : Trailing) (w : Watching) (done : ℕ) : Type 0 where
  pub state : IsState f lines t w
  pub inside : done ≤ length t.steps
  pub propagated : ArePropagated (known f lines) w.pairs t.steps done

-- a search found a model, or a clause that is false
abbrev pub IsSearched : Formula → List LogLine → Trailing → Watching → Outcome → Type 0
IsSearched f lines t w (Values v) = (length v.items ≡ f.vars) × IsModel (values_of v.items) f
IsSearched f lines t w (Conflict k) = IsState f lines t w × IsConflict (known f lines) t.steps k

-- the solver is ready, nothing is marked, and each line so far is worth its numbers, which are counted
-- and within the budget
pub record IsWorking (f : Formula) (lines : List LogLine) (t : Trailing) (w : Watching) (done : ℕ) (marks : Marking) (used numbers : ℕ) : Type 0 where
  pub ready : IsReady f lines t w done
  pub learnt : AreLearnt f lines
  pub counted : used ≡ log_numbers lines
  pub budget : used ≤ numbers
  pub unmarked : marks.marked ≡ []
  pub vars : marks.vars ≡ f.vars
