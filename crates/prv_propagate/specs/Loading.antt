-- Clauses that are added to those that are watched.
use Rattle.std.specs.Prelude.{Option, ◌≡◌, ℕ, ◌+◌, ◌*◌, ◌-◌, ◌^◌, ◌<◌, ◌≤◌, true, List, [], length, take, MatchOption}
use Rattle.std.specs.List.{list_all}
use Rattle.prv_cnf.specs.declared.literal.Lit.{Lit}
use Rattle.prv_cnf.specs.Literals.{negate, has_literal}
use Rattle.prv_check.specs.Lines.{is_within}
use Rattle.prv_propagate.specs.declared.trail.Step.{Step}
use Rattle.prv_propagate.specs.Trails.{Trailing, trues, step_at, EachStep, IsDecision}
use Rattle.prv_propagate.specs.Reasons.{clause_of, are_others_false, AreJustified}
use Rattle.prv_propagate.specs.Guards.{AreGuarded}
use Rattle.prv_propagate.specs.Watching.{Watching, IsWatched}
use Rattle.prv_propagate.specs.Soundness.{IsSound, ArePropagated, IsConflict}

-- no step is a decision
abbrev pub AreImplied : List Step → Type 0
AreImplied steps = EachStep (λ _ s. IsDecision s → ⊥) steps

-- the first so many of the clauses were loaded: each is watched, and true if it has one literal
pub record IsLoading (cs : List (List Lit)) (count : ℕ) (t : Trailing) (w : Watching) : Type 0 where
  pub within : (k : ℕ) → k < length cs → list_all (is_within t.vars) (clause_of cs k) ≡ true
  pub few : length cs < 2 ^ 32
  pub places : length w.lists ≡ 2 * t.vars + 1
  pub inside : count ≤ length cs
  pub watched : IsWatched (take count cs) w
  pub justified : AreJustified cs t.steps
  pub implied : AreImplied t.steps
  pub guarded : AreGuarded (take count cs) w.pairs [] (trues t.steps)

-- loading ends in a conflict, or nothing was propagated yet; nothing was decided
pub record IsLoaded (cs : List (List Lit)) (t : Trailing) (w : Watching) (found : Option ℕ) : Type 0 where
  pub justified : AreJustified cs t.steps
  pub implied : AreImplied t.steps
  pub result : MatchOption found (IsSound cs t w × ArePropagated cs w.pairs t.steps 0) (IsConflict cs t.steps)

-- a clause implies its literal: the first so many steps falsify its others, the last of them one of
-- these, if there are any, and each decision is among them
pub record IsAsserting (steps : List Step) (c : List Lit) (lit : Lit) (keep : ℕ) : Type 0 where
  pub has : has_literal c lit ≡ true
  pub inside : keep ≤ length steps
  pub others : are_others_false (trues (take keep steps)) c lit ≡ true
  pub last : 0 < keep → has_literal c (negate (step_at steps (keep - 1)).lit) ≡ true
  pub decisions : (p : ℕ) → p < length steps → IsDecision (step_at steps p) → p < keep
