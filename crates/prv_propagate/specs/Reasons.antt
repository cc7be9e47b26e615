-- Reasons: the clauses that imply the literals of a trail.
use Rattle.std.specs.Prelude.{◌≡◌, ℕ, ◌<◌, ◌⊎◌, Bool, true, ◌&&◌, ◌||◌, List, [], length, slice_index_or}
use Rattle.std.specs.List.{list_all, list_any}
use Rattle.prv_cnf.specs.declared.literal.Lit.{Lit}
use Rattle.prv_cnf.specs.Literals.{same_literal, has_literal}
use Rattle.prv_check.specs.Propagation.{is_false}
use Rattle.prv_propagate.specs.declared.trail.Step.{Step}
use Rattle.prv_propagate.specs.Trails.{trues, EachStep, IsDecision}

-- the clause of this number
abbrev pub clause_of : List (List Lit) → ℕ → List Lit
clause_of cs k = slice_index_or cs k []

-- each literal of the clause but this one is false
abbrev pub are_others_false : List Lit → List Lit → Lit → Bool
are_others_false trues c l = list_all (λ x. same_literal l x || is_false trues x) c

-- where these literals are true, the clause implies the literal
abbrev pub is_reason : List Lit → List Lit → Lit → Bool
is_reason trues c l = has_literal c l && are_others_false trues c l

-- a step is a decision, or implied by the clause that it names as its reason
abbrev pub IsJustified : List (List Lit) → List Step → Step → Type 0
IsJustified cs front s =
    IsDecision s ⊎ ((s.reason < length cs) × (is_reason (trues front) (clause_of cs s.reason) s.lit ≡ true))

-- each step is justified
abbrev pub AreJustified : List (List Lit) → List Step → Type 0
AreJustified cs steps = EachStep (IsJustified cs) steps

-- some literal of the clause is true
abbrev pub is_satisfied : List Lit → List Lit → Bool
is_satisfied trues c = list_any (has_literal trues) c

-- each literal of the clause is false
abbrev pub is_falsified : List Lit → List Lit → Bool
is_falsified trues c = list_all (is_false trues) c
