-- What propagation keeps true of the trail and the watches.
use Rattle.std.specs.Prelude.{Option, ◌≡◌, ℕ, ◌+◌, ◌*◌, ◌^◌, ◌<◌, ◌⊎◌, true, false, List, length, take, MatchOption}
use Rattle.std.specs.List.{list_all}
use Rattle.prv_cnf.specs.declared.literal.Lit.{Lit}
use Rattle.prv_cnf.specs.Literals.{same_literal, has_literal}
use Rattle.prv_check.specs.Propagation.{is_false}
use Rattle.prv_check.specs.Lines.{is_within}
use Rattle.prv_propagate.specs.declared.trail.Step.{Step}
use Rattle.prv_propagate.specs.declared.watches.Pair.{Pair}
use Rattle.prv_propagate.specs.declared.look.Finding.{Finding}
use Rattle.prv_propagate.specs.declared.look.Finding.TheVariants.{Stale, Satisfied, Free, Unit, Conflict}
use Rattle.prv_propagate.specs.Trails.{Trailing, trues}
use Rattle.prv_propagate.specs.Reasons.{clause_of, are_others_false, is_falsified, AreJustified}
use Rattle.prv_propagate.specs.Guards.{AreGuarded, AreBased}
use Rattle.prv_propagate.specs.Watching.{Watching, IsWatched}

-- the clauses are of the variables, there are less than 2^32 of them, each is watched, and each step
-- is justified and was taken once propagation was complete, if it is a decision
pub record IsSound (cs : List (List Lit)) (t : Trailing) (w : Watching) : Type 0 where
  pub within : (k : ℕ) → k < length cs → list_all (is_within t.vars) (clause_of cs k) ≡ true
  pub few : length cs < 2 ^ 32
  pub places : length w.lists ≡ 2 * t.vars + 1
  pub watched : IsWatched cs w
  pub justified : AreJustified cs t.steps
  pub based : AreBased cs w.pairs t.steps

-- so many steps were propagated: each clause is guarded as far as they go
abbrev pub ArePropagated : List (List Lit) → List Pair → List Step → ℕ → Type 0
ArePropagated cs pairs steps count = AreGuarded cs pairs (trues (take count steps)) (trues steps)

-- the steps stay, and others come after them
abbrev pub IsExtended : List Step → List Step → Type 0
IsExtended old new = take (length old) new ≡ old

-- each literal of the clause of this number is false
abbrev pub IsConflict : List (List Lit) → List Step → ℕ → Type 0
IsConflict cs steps k = (k < length cs) × (is_falsified (trues steps) (clause_of cs k) ≡ true)

-- propagation ends in a conflict, or so many steps were propagated
abbrev pub IsSpread : List (List Lit) → List Pair → List Step → ℕ → Option ℕ → Type 0
IsSpread cs pairs steps count found = MatchOption found (ArePropagated cs pairs steps count) (IsConflict cs steps)

-- the pair is of this literal and another
abbrev pub IsOther : Pair → Lit → Lit → Type 0
IsOther p l other = ((p.first ≡ l) × (other ≡ p.second)) ⊎ ((p.second ≡ l) × (other ≡ p.first))

-- what was found of a clause with this pair, once the literal is false
abbrev pub Finds : List Lit → List Lit → Pair → Lit → Finding → Type 0
Finds trues c p l Stale = (same_literal p.first l ≡ false) × (same_literal p.second l ≡ false)
Finds trues c p l (Satisfied other) = IsOther p l other × (has_literal trues other ≡ true)
Finds trues c p l (Free q) =
    IsOther p l q.second × (has_literal c q.first ≡ true) × (is_false trues q.first ≡ false) × (same_literal q.first q.second ≡ false)
Finds trues c p l (Unit other) =
    IsOther p l other × (are_others_false trues c other ≡ true) × (has_literal trues other ≡ false) × (is_false trues other ≡ false)
Finds trues c p l Conflict = is_falsified trues c ≡ true
