-- Trails: the literals that are true, in the order in which they became true.
use Rattle.std.specs.Prelude.{◌≡◌, ℕ, ◌<◌, ◌≤◌, true, false, List, map, length, take, slice_index_or, pos}
use Rattle.std.specs.List.{list_all}
use Rattle.prv_cnf.specs.declared.literal.Lit.{Lit}
use Rattle.prv_cnf.specs.Literals.{has_literal}
use Rattle.prv_check.specs.Propagation.{is_false}
use Rattle.prv_check.specs.Lines.{is_within}
use Rattle.prv_propagate.specs.declared.trail.Step.{Step}
use Rattle.prv_propagate.specs.declared.trail.TheConstants.{NO_REASON}

-- how many variables there are, and the steps: each makes a literal true
pub record Trailing : Type 0 where
  pub vars : ℕ
  pub steps : List Step

-- the literals that the steps make true
abbrev pub trues : List Step → List Lit
trues steps = map (λ s. s.lit) steps

-- the step at a place
abbrev pub step_at : List Step → ℕ → Step
step_at steps k = slice_index_or steps k (record { lit = record { 0 = pos 0 }; reason = 0 })

-- each step has the property, after the steps before it
abbrev pub EachStep : (List Step → Step → Type 0) → List Step → Type 0
EachStep P steps = (k : ℕ) → k < length steps → P (take k steps) (step_at steps k)

-- a step that no clause implies
abbrev pub IsDecision : Step → Type 0
IsDecision s = s.reason ≡ NO_REASON

-- the true literals are of variables, none is true with its negation, and none stands twice
pub record IsAssignment (t : Trailing) : Type 0 where
  pub within : list_all (is_within t.vars) (trues t.steps) ≡ true
  pub consistent : (l : Lit) → has_literal (trues t.steps) l ≡ true → is_false (trues t.steps) l ≡ false
  pub once : EachStep (λ front s. has_literal (trues front) s.lit ≡ false) t.steps

-- a cut of a trail that keeps so many steps: it is its end or a decision, and no decision stands after
-- those that are kept
pub record IsCut (steps : List Step) (keep end : ℕ) : Type 0 where
  pub inside : end ≤ length steps
  pub kept : keep ≤ end
  pub at_decision : end < length steps → IsDecision (step_at steps end)
  pub last : (p : ℕ) → p < end → IsDecision (step_at steps p) → p < keep
