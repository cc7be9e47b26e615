-- A walk through the watches under a literal that is false by a step.
use Rattle.std.specs.Prelude.{◌≡◌, ℕ, ◌+◌, ◌<◌, ◌≤◌, true, ◌||◌, List, length, take}
use Rattle.prv_cnf.specs.declared.literal.Lit.{Lit}
use Rattle.prv_cnf.specs.Literals.{negate}
use Rattle.prv_propagate.specs.declared.trail.Step.{Step}
use Rattle.prv_propagate.specs.Trails.{Trailing, trues, step_at}
use Rattle.prv_propagate.specs.Reasons.{clause_of}
use Rattle.prv_propagate.specs.Guards.{pair_of, is_guarded}
use Rattle.prv_propagate.specs.Watching.{Watching, watches_of, is_listed}
use Rattle.prv_propagate.specs.Soundness.{IsSound, ArePropagated}

-- the literal that is false by a step
abbrev pub false_by : List Step → ℕ → Lit
false_by steps from = negate (step_at steps from).lit

-- the steps before one were propagated, and the watches under the literal that is false by it were
-- visited down to a place: each clause is among the others or guarded past the step
pub record IsWalk (cs : List (List Lit)) (from : ℕ) (t : Trailing) (w : Watching) (at : ℕ) : Type 0 where
  pub sound : IsSound cs t w
  pub inside : from < length t.steps
  pub before : ArePropagated cs w.pairs t.steps from
  pub bound : at ≤ length (watches_of w (false_by t.steps from))
  pub visited : (k : ℕ) → k < length cs →
      (is_listed k (take at (watches_of w (false_by t.steps from)))
      || is_guarded (trues (take (from + 1) t.steps)) (trues t.steps) (clause_of cs k) (pair_of w.pairs k)) ≡ true
