-- Guards: two literals of a clause that are watched, so that the clause is looked at once one of them
-- is false.
use Rattle.std.specs.Prelude.{◌≡◌, ℕ, ◌<◌, Bool, true, not, ◌&&◌, ◌||◌, List, length, slice_index_or, pos}
use Rattle.std.specs.List.{list_all}
use Rattle.prv_cnf.specs.declared.literal.Lit.{Lit}
use Rattle.prv_cnf.specs.Literals.{same_literal, has_literal}
use Rattle.prv_check.specs.Propagation.{is_false}
use Rattle.prv_propagate.specs.declared.trail.Step.{Step}
use Rattle.prv_propagate.specs.declared.watches.Pair.{Pair}
use Rattle.prv_propagate.specs.Trails.{trues, EachStep, IsDecision}
use Rattle.prv_propagate.specs.Reasons.{clause_of, is_satisfied}

-- the pair of the clause of this number
abbrev pub pair_of : List Pair → ℕ → Pair
pair_of pairs k = slice_index_or pairs k (record { first = record { 0 = pos 0 }; second = record { 0 = pos 0 } })

-- two literals of a clause, which differ unless all its literals are the same
abbrev pub is_pair : List Lit → Pair → Bool
is_pair c p =
    has_literal c p.first && (has_literal c p.second && (not (same_literal p.first p.second) || list_all (same_literal p.first) c))

-- two different literals, neither of which is false
abbrev pub is_free : List Lit → Pair → Bool
is_free front p = not (same_literal p.first p.second) && (not (is_false front p.first) && not (is_false front p.second))

-- the clause has a true literal, or its pair is free as far as the trail was propagated
abbrev pub is_guarded : List Lit → List Lit → List Lit → Pair → Bool
is_guarded front trues c p = is_satisfied trues c || is_free front p

-- each clause is guarded by its pair
abbrev pub AreGuarded : List (List Lit) → List Pair → List Lit → List Lit → Type 0
AreGuarded cs pairs front trues =
    (k : ℕ) → k < length cs → is_guarded front trues (clause_of cs k) (pair_of pairs k) ≡ true

-- what was true before a decision was propagated to its end
abbrev pub IsBased : List (List Lit) → List Pair → List Step → Step → Type 0
IsBased cs pairs front s = IsDecision s → AreGuarded cs pairs (trues front) (trues front)

-- each decision was taken after propagation was complete
abbrev pub AreBased : List (List Lit) → List Pair → List Step → Type 0
AreBased cs pairs steps = EachStep (IsBased cs pairs) steps
