-- Parts of a search.
use Rattle.std.specs.Prelude.{Option, ◌≡◌, ℕ, ◌+◌, ◌<◌, Bool, true, false, List, length, slice_index_or, pos, MatchOption}
use Rattle.prv_cnf.specs.declared.literal.Lit.{Lit}
use Rattle.prv_cnf.specs.Literals.{has_literal}
use Rattle.prv_cnf.specs.Formulas.{Formula}
use Rattle.prv_check.specs.LogLines.{LogLine}
use Rattle.prv_check.specs.Lines.{known}
use Rattle.prv_propagate.specs.declared.trail.Step.{Step}
use Rattle.prv_propagate.specs.Trails.{Trailing, trues}
use Rattle.prv_propagate.specs.Watching.{Watching}
use Rattle.prv_propagate.specs.Reasons.{clause_of, is_satisfied}
use Rattle.prv_propagate.specs.Soundness.{IsConflict}
use Rattle.prv_sat.specs.States.{IsState, IsReady}

-- propagation went through, or ended in a conflict
abbrev pub IsSpreadTo : Formula → List LogLine → Trailing → Watching → ℕ → Option ℕ → Type 0
IsSpreadTo f lines t w done found =
    MatchOption found (IsReady f lines t w (length t.steps) × (done ≡ length t.steps)) (λ k. IsState f lines t w × IsConflict (known f lines) t.steps k)

-- the first so many of the clauses are true
abbrev pub AreSatisfied : List (List Lit) → ℕ → List Step → Type 0
AreSatisfied cs count steps = (k : ℕ) → k < count → is_satisfied (trues steps) (clause_of cs k) ≡ true

-- the values of so many variables, by the true literals
abbrev pub AreValues : ℕ → List Step → List Bool → Type 0
AreValues vars steps values =
    (length values ≡ vars) × ((k : ℕ) → k < vars → slice_index_or values k false ≡ has_literal (trues steps) (record { 0 = pos (k + 1) }))
