-- What the runs at an input say of every input of its partition.
use Rattle.std.proofs.Common.{◌≡◌, ℕ, nat_eq, Bool, true, false, ◌&&◌, ◌||◌, not, List, [], ◌∷◌, ◌++◌, length, map, ℤ, pos, if◌then◌else◌, refl, sym, ap, ◌∙◌, subst, arith, eq-eqb}
use Rattle.std.proofs.lemmas.List.{length-map}
use Rattle.std.specs.List.{list_any}
use Rattle.std.specs.Ordering.{int_eq}
use lib.Pointwise.{pointwise, pointwise_long}
use Rattle.prv_model.specs.Words.{is_zero, flag}
use Rattle.prv_model.specs.Terms.{term_value, holds}
use Rattle.prv_model.specs.TermOrder.{same_term}
use Rattle.prv_model.specs.Outcomes.{outcome}
use Rattle.prv_model.specs.Comparison.{ending_eq, outcome_eq, is_long}
use Rattle.prv_model.specs.Boards.{IsInput}
use Rattle.prv_model.specs.Programs.{IsPair}
use Rattle.prv_model.specs.declared.op.TermOp.TheVariants.{And, Eq}
use Rattle.prv_model.specs.declared.outcome.Outcome.{Outcome}
use Rattle.prv_model.specs.declared.program.Pair.{Pair}
use Rattle.prv_model.specs.declared.term.Term.{Term}
use Rattle.prv_model.specs.declared.term.Term.TheVariants.{Num}
use Rattle.prv_model.proofs.OrderLemmas.{same_term-same}
use Rattle.prv_model.proofs.TermLemmas.{term_value-Num, holds-append}
use Rattle.prv_pool.specs.Folding.{negation, folded}
use Rattle.prv_pool.specs.Tables.{has_term}
use Rattle.prv_general.specs.Slices.{Slice}
use Rattle.prv_general.proofs.SliceLaws.{fixes-outcome, holds-member}
use Rattle.prv_part.specs.Literals.{without_repeats, slice_before, slice_after, pair_literals, all_equal, equality, agree_at, decided_equality}
use Rattle.prv_part.specs.Parts.{partition}
use Rattle.prv_part.proofs.Negations.{and-left, and-right, negation-nonzero}
use Rattle.prv_part.proofs.Equalities.{eq-value, and-value}

-- ---- literals without repeats say the same

-- a region with a term holds only where the term is nonzero
had-nonzero : (seen : List Term) (t : Term) (x : List ℤ) → has_term seen t ≡ true → holds seen x ≡ true → not (is_zero (term_value t x)) ≡ true
had-nonzero [] t x e h = cc e
had-nonzero (s ∷ seen) t x e h = by (same_term t s) refl e (λ k. had-nonzero seen t x k (and-right (not (is_zero (term_value s x))) _ h))
  where
    by : (z : Bool) → same_term t s ≡ z → (z || list_any (same_term t) seen) ≡ true → (list_any (same_term t) seen ≡ true → not (is_zero (term_value t x)) ≡ true) → not (is_zero (term_value t x)) ≡ true
    by true f e later = ap (λ (u : Term). not (is_zero (term_value u x))) ((same_term-same t s).0 f) ∙ and-left _ _ h
    by false f e later = later e

holds-front : (a b : List Term) (x : List ℤ) → holds (a ++ b) x ≡ true → holds a x ≡ true
holds-front a b x h = and-left _ _ (sym (holds-append a b x) ∙ h)

holds-back : (a b : List Term) (x : List ℤ) → holds (a ++ b) x ≡ true → holds b x ≡ true
holds-back a b x h = and-right (holds a x) _ (sym (holds-append a b x) ∙ h)

holds-both : (a b : List Term) (x : List ℤ) → holds a x ≡ true → holds b x ≡ true → holds (a ++ b) x ≡ true
holds-both a b x h k = holds-append a b x ∙ rw (h, k) refl

-- beside what was seen, the terms without repeats hold exactly where all the terms do
repeats-hold : (seen ts : List Term) (x : List ℤ) → holds seen x ≡ true → holds (without_repeats seen ts) x ≡ holds ts x
repeats-hold seen [] x h = refl
repeats-hold seen (t ∷ ts) x h =
    by (has_term seen t) refl (repeats-hold seen ts x h)
    (λ nonzero. repeats-hold (seen ++ t ∷ []) ts x (holds-both seen (t ∷ []) x h (rw nonzero refl)))
  where
    new : (z : Bool) → (z ≡ true → holds (without_repeats (seen ++ t ∷ []) ts) x ≡ holds ts x) → (z && holds (without_repeats (seen ++ t ∷ []) ts) x) ≡ (z && holds ts x)
    new false later = refl
    new true later = later refl

    by : (z : Bool) → has_term seen t ≡ z → holds (without_repeats seen ts) x ≡ holds ts x → (not (is_zero (term_value t x)) ≡ true → holds (without_repeats (seen ++ t ∷ []) ts) x ≡ holds ts x) →
        holds (if z then without_repeats seen ts else (t ∷ without_repeats (seen ++ t ∷ []) ts)) x ≡ (not (is_zero (term_value t x)) && holds ts x)
    by true e seen_before later = seen_before ∙ sym (ap (λ (b : Bool). b && holds ts x) (had-nonzero seen t x e h))
    by false e seen_before later = new (not (is_zero (term_value t x))) later

-- ---- the partition of an input

-- an input lies in a partition where it lies in the region and takes both ways
partition-holds : (pair : Pair) (region : List Term) (t x : List ℤ) → holds region x ≡ true → holds (pair_literals pair region t) x ≡ holds ((slice_before pair t).literals ++ (slice_after pair t).literals) x
partition-holds pair region t x h = repeats-hold region _ x h

pub lies-in-region : (pair : Pair) (region : List Term) (t x : List ℤ) → holds (partition pair region t) x ≡ true → holds region x ≡ true
lies-in-region pair region t x h = holds-front region (pair_literals pair region t) x h

takes-both : (pair : Pair) (region : List Term) (t x : List ℤ) → holds (partition pair region t) x ≡ true → holds ((slice_before pair t).literals ++ (slice_after pair t).literals) x ≡ true
takes-both pair region t x h = sym (partition-holds pair region t x (lies-in-region pair region t x h)) ∙ holds-back region (pair_literals pair region t) x h

-- an input of one version is one of the other
pub after-input : (pair : Pair) (x : List ℤ) → IsInput pair.before.params x → IsInput pair.after.params x
after-input pair x h =
    let kept : IsPair pair.before.params pair.after.params pair.turns = pair.kept in
    let P : ℕ → Type 0 = λ n. IsInput n x in
    subst P kept.same_params h

-- a partition holds its own input
pub holds-own : (pair : Pair) (region : List Term) (t : List ℤ) → IsInput pair.before.params t → holds region t ≡ true → holds (partition pair region t) t ≡ true
holds-own pair region t here inside =
    let both : holds ((slice_before pair t).literals ++ (slice_after pair t).literals) t ≡ true =
    holds-both (slice_before pair t).literals (slice_after pair t).literals t (holds-member pair.before pair.turns t here) (holds-member pair.after pair.turns t (after-input pair t here)) in
    holds-both region (pair_literals pair region t) t inside (partition-holds pair region t t inside ∙ both)

-- what a slice says of an input
abbrev said : Slice → List ℤ → Outcome
said s x = record { outs = map (λ t. term_value t x) s.outs; how = s.how }

before-says : (pair : Pair) (region : List Term) (t x : List ℤ) → IsInput pair.before.params t → IsInput pair.before.params x → holds (partition pair region t) x ≡ true →
    outcome pair.before pair.turns x ≡ said (slice_before pair t) x
before-says pair region t x ht hx h =
    fixes-outcome pair.before pair.turns t x ht hx (holds-front (slice_before pair t).literals (slice_after pair t).literals x (takes-both pair region t x h))

after-says : (pair : Pair) (region : List Term) (t x : List ℤ) → IsInput pair.before.params t → IsInput pair.before.params x → holds (partition pair region t) x ≡ true →
    outcome pair.after pair.turns x ≡ said (slice_after pair t) x
after-says pair region t x ht hx h =
    fixes-outcome pair.after pair.turns t x (after-input pair t ht) (after-input pair x hx) (holds-back (slice_before pair t).literals (slice_after pair t).literals x (takes-both pair region t x h))

-- ---- the equality of two slices

and-true : (p : Bool) → (p && true) ≡ p
and-true true = refl
and-true false = refl

and-assoc : (p q r : Bool) → ((p && q) && r) ≡ (p && (q && r))
and-assoc true q r = refl
and-assoc false q r = refl

all-value : (made : Term) (a b : List Term) (x : List ℤ) (p : Bool) → length a ≡ length b → term_value made x ≡ flag p →
    term_value (all_equal made a b) x ≡ flag (p && pointwise int_eq (map (λ t. term_value t x) a) (map (λ t. term_value t x) b))
all-value made [] [] x p e m = m ∙ ap flag (sym (and-true p))
all-value made [] (u ∷ b) x p e m = cc e
all-value made (t ∷ a) [] x p e m = cc e
all-value made (t ∷ a) (u ∷ b) x p e m =
    let q = int_eq (term_value t x) (term_value u x) in
    let joined : term_value (folded And made (folded Eq t u)) x ≡ flag (p && q) = and-value made (folded Eq t u) x p q m (eq-value t u x) in
    all-value (folded And made (folded Eq t u)) a b x (p && q) (omega (arith, e)) joined
    ∙ ap flag (and-assoc p q (pointwise int_eq (map (λ t. term_value t x) a) (map (λ t. term_value t x) b)))

-- lists of different lengths differ
differ-long : (a b : List Term) (x : List ℤ) → nat_eq (length a) (length b) ≡ false → pointwise int_eq (map (λ t. term_value t x) a) (map (λ t. term_value t x) b) ≡ false
differ-long a b x e = by (pointwise int_eq (map (λ t. term_value t x) a) (map (λ t. term_value t x) b)) refl
  where
    by : (z : Bool) → pointwise int_eq (map (λ t. term_value t x) a) (map (λ t. term_value t x) b) ≡ z → z ≡ false
    by false f = refl
    by true f =
        let long : length a ≡ length b = sym (length-map a (λ t. term_value t x)) ∙ pointwise_long int_eq _ _ f ∙ length-map b (λ t. term_value t x) in
        let yes : nat_eq (length a) (length b) ≡ true = eq-eqb _ _ long in
        cc (yes, e)

equality-value : (a b : Slice) (x : List ℤ) → term_value (equality a b) x ≡ flag (outcome_eq (said a x) (said b x))
equality-value a b x = by (ending_eq a.how b.how) (nat_eq (length a.outs) (length b.outs)) refl refl
  where
    by : (p q : Bool) → ending_eq a.how b.how ≡ p → nat_eq (length a.outs) (length b.outs) ≡ q →
        term_value (if (p && q) then all_equal (Num (pos 1)) a.outs b.outs else Num (pos 0)) x ≡ flag (p && pointwise int_eq (map (λ t. term_value t x) a.outs) (map (λ t. term_value t x) b.outs))
    by false q e f = term_value-Num (pos 0) x
    by true false e f = term_value-Num (pos 0) x ∙ ap flag (sym (differ-long a.outs b.outs x f))
    by true true e f = all-value (Num (pos 1)) a.outs b.outs x true (grind (arith, f)) (term_value-Num (pos 1) x)

flag-nonzero : (p : Bool) → not (is_zero (flag p)) ≡ p
flag-nonzero true = refl
flag-nonzero false = refl

flag-zero : (p : Bool) → is_zero (flag p) ≡ not p
flag-zero true = refl
flag-zero false = refl

-- on the inputs of a partition, the equality is nonzero exactly where the versions agree
equality-says : (pair : Pair) (region : List Term) (t x : List ℤ) → IsInput pair.before.params t → IsInput pair.before.params x → holds (partition pair region t) x ≡ true →
    term_value (equality (slice_before pair t) (slice_after pair t)) x ≡ flag (agree_at pair x)
equality-says pair region t x ht hx h =
    equality-value (slice_before pair t) (slice_after pair t) x
    ∙ (λ i. flag (outcome_eq (sym (before-says pair region t x ht hx h) i) (sym (after-says pair region t x ht hx h) i)))

-- ... and decided, where they compare as at the input that was run
abbrev pub as_decided : Bool → Bool → Bool
as_decided true q = q
as_decided false q = not q

decided-value : (e : Term) (x : List ℤ) (p q : Bool) → term_value e x ≡ flag q → not (is_zero (term_value (if p then e else negation e) x)) ≡ as_decided p q
decided-value e x true q is = ap (λ (v : ℤ). not (is_zero v)) is ∙ flag-nonzero q
decided-value e x false q is = negation-nonzero e x ∙ ap is_zero is ∙ flag-zero q

pub decided-says : (pair : Pair) (region : List Term) (t x : List ℤ) → IsInput pair.before.params t → IsInput pair.before.params x → holds (partition pair region t) x ≡ true →
    not (is_zero (term_value (decided_equality pair t) x)) ≡ as_decided (agree_at pair t) (agree_at pair x)
decided-says pair region t x ht hx h = decided-value (equality (slice_before pair t) (slice_after pair t)) x (agree_at pair t) (agree_at pair x) (equality-says pair region t x ht hx h)

-- ---- runs past the bound on turns

abbrev pub long_at : Pair → List ℤ → Bool
long_at pair x = is_long (outcome pair.before pair.turns x).how || is_long (outcome pair.after pair.turns x).how

-- all inputs of a partition are long where one is
pub long-alike : (pair : Pair) (region : List Term) (t x : List ℤ) → IsInput pair.before.params t → IsInput pair.before.params x → holds region t ≡ true → holds (partition pair region t) x ≡ true →
    long_at pair x ≡ long_at pair t
long-alike pair region t x ht hx inside h =
    let own = holds-own pair region t ht inside in
    let before : (outcome pair.before pair.turns x).how ≡ (outcome pair.before pair.turns t).how =
    ap (λ (o : Outcome). o.how) (before-says pair region t x ht hx h) ∙ sym (ap (λ (o : Outcome). o.how) (before-says pair region t t ht ht own)) in
    let after : (outcome pair.after pair.turns x).how ≡ (outcome pair.after pair.turns t).how =
    ap (λ (o : Outcome). o.how) (after-says pair region t x ht hx h) ∙ sym (ap (λ (o : Outcome). o.how) (after-says pair region t t ht ht own)) in
    λ i. is_long (before i) || is_long (after i)
