-- The other part of a partition: its terms, and that it has no input where the partition is granted or a log refutes it.
use Rattle.std.proofs.Common.{◌≡◌, Bool, true, false, ◌&&◌, ◌||◌, not, List, [], ◌∷◌, ◌++◌, ℤ, pos, refl, ap, ◌∙◌}
use Rattle.std.specs.List.{AllByRecursion, list_any}
use Rattle.prv_model.specs.Words.{is_zero}
use Rattle.prv_model.specs.Terms.{IsTerm, term_value, holds}
use Rattle.prv_model.specs.TermOrder.{same_term}
use Rattle.prv_model.specs.declared.program.Pair.{Pair}
use Rattle.prv_model.specs.declared.term.Term.{Term}
use Rattle.prv_model.proofs.OrderLemmas.{same_term-same}
use Rattle.prv_model.proofs.TermLemmas.{holds-append}
use Rattle.prv_pool.specs.Folding.{is_number, negation}
use Rattle.prv_pool.specs.Tables.{has_term}
use Rattle.prv_pool.proofs.FoldLaws.{negation-term}
use Rattle.prv_blast.proofs.Growing.{all-append}
use Rattle.prv_part.specs.Literals.{decided_equality}
use Rattle.prv_part.specs.Parts.{partition}
use Rattle.prv_part.proofs.Overs.{decided-term, partition-terms}
use Rattle.prv_part.proofs.Negations.{and-left, and-right, negation-nonzero, this-number}
use Rattle.prv_settle.specs.Grounds.{is_granted, other_part}

-- ---- terms over the parameters

pub other-part-terms : (pair : Pair) (region : List Term) (t : List ℤ) → AllByRecursion (IsTerm pair.before.params) region → AllByRecursion (IsTerm pair.before.params) (other_part pair region t)
other-part-terms pair region t h =
    all-append (IsTerm pair.before.params) (partition pair region t) (negation (decided_equality pair t) ∷ []) (partition-terms pair region t h)
    (negation-term pair.before.params (decided_equality pair t) (decided-term pair t), tt)

-- ---- a granted partition

has-nonzero : (ts : List Term) (t : Term) (x : List ℤ) → has_term ts t ≡ true → holds ts x ≡ true → is_zero (term_value t x) ≡ false
has-nonzero [] t x e h = cc e
has-nonzero (s ∷ ts) t x e h = by (same_term t s) refl e (λ k. has-nonzero ts t x k (and-right (not (is_zero (term_value s x))) _ h))
  where
    not-true : (z : Bool) → not z ≡ true → z ≡ false
    not-true true k = cc k
    not-true false k = refl

    by : (z : Bool) → same_term t s ≡ z → (z || list_any (same_term t) ts) ≡ true → (list_any (same_term t) ts ≡ true → is_zero (term_value t x) ≡ false) → is_zero (term_value t x) ≡ false
    by true f k later = ap (λ (u : Term). is_zero (term_value u x)) ((same_term-same t s).0 f) ∙ not-true (is_zero (term_value s x)) (and-left _ _ h)
    by false f k later = later k

-- where a term is nonzero on each input of a part, the part with its negation has none
none-with : (part : List Term) (t : Term) (x : List ℤ) → (holds part x ≡ true → is_zero (term_value t x) ≡ false) → holds (part ++ negation t ∷ []) x ≡ false
none-with part t x h =
    holds-append part (negation t ∷ []) x ∙ (λ i. holds part x && (negation-nonzero t x i && true)) ∙ by (holds part x) (is_zero (term_value t x)) h
  where
    by : (p z : Bool) → (p ≡ true → z ≡ false) → (p && (z && true)) ≡ false
    by false z k = refl
    by true z k = ap (λ (y : Bool). y && true) (k refl)

pub granted-none : (pair : Pair) (region : List Term) (t x : List ℤ) → is_granted pair region t ≡ true → holds (other_part pair region t) x ≡ false
granted-none pair region t x e = none-with (partition pair region t) (decided_equality pair t) x (λ h. by (is_number (pos 1) (decided_equality pair t)) refl e h)
  where
    by : (z : Bool) → is_number (pos 1) (decided_equality pair t) ≡ z → (z || has_term (partition pair region t) (decided_equality pair t)) ≡ true → holds (partition pair region t) x ≡ true → is_zero (term_value (decided_equality pair t) x) ≡ false
    by true f k h = ap is_zero (this-number (decided_equality pair t) (pos 1) x f)
    by false f k h = has-nonzero (partition pair region t) (decided_equality pair t) x k h
