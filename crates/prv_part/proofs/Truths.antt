-- What has to be known for the parts of each shape to be true.
use Rattle.std.proofs.Common.{◌≡◌, ◌≢◌, ℕ, Bool, true, false, not, List, [], ◌∷◌, ◌++◌, map, ℤ, if◌then◌else◌, refl, sym, ap, ◌∙◌}
use Rattle.prv_model.specs.Words.{is_zero}
use Rattle.prv_model.specs.Terms.{term_value, holds}
use Rattle.prv_model.specs.Comparison.{verdict}
use Rattle.prv_model.specs.Boards.{IsInput, Claims, ShowsMember, IsTrueOf}
use Rattle.prv_model.specs.declared.entry.Kind.TheVariants as k
use Rattle.prv_model.specs.declared.entry.Reason.{Reason}
use Rattle.prv_model.specs.declared.program.Pair.{Pair}
use Rattle.prv_model.specs.declared.term.Term.{Term}
use Rattle.prv_model.specs.declared.verdict.Verdict.{Verdict}
use Rattle.prv_model.specs.declared.verdict.Verdict.TheVariants as v
use Rattle.prv_model.proofs.TermLemmas.{holds-append}
use Rattle.prv_pool.specs.Folding.{negation}
use Rattle.prv_part.specs.Literals.{agree_at, decided_equality, pair_literals}
use Rattle.prv_part.specs.Parts.{Other, rests, unmarked, kind_at, contrary_kind, partition, parts_of, AreTrue}
use Rattle.prv_part.specs.declared.shape.Shape.TheVariants.{Empty, Stuck, Whole, Split, Beyond}
use Rattle.prv_part.proofs.Negations.{and-left, and-right, negation-nonzero}
use Rattle.prv_part.proofs.Covering.{open-true}
use Rattle.prv_part.proofs.Partitions.{as_decided, decided-says, long_at, long-alike, holds-own}

-- ---- what two outcomes compare to

abbrev compared : Bool → Bool → Verdict
compared long agree = if long then v.Beyond else if agree then v.Same else v.Differ

is-long : (long agree : Bool) → compared long agree ≡ v.Beyond → long ≡ true
is-long true agree e = refl
is-long false true e = cc e
is-long false false e = cc e

is-short : (long agree : Bool) → compared long agree ≢ v.Beyond → long ≡ false
is-short true agree n = absurd (n refl)
is-short false agree n = refl

kind-said : (long agree here : Bool) (t : List ℤ) → long ≡ false → agree ≡ here → Claims (if here then k.Same else k.Different t) (compared long agree)
kind-said true agree here t e f = cc e
kind-said false true true t e f = refl
kind-said false false false t e f = refl
kind-said false true false t e f = cc f
kind-said false false true t e f = cc f

contrary-said : (long agree here : Bool) (t : List ℤ) → long ≡ false → agree ≡ not here → Claims (if here then k.Different t else k.Same) (compared long agree)
contrary-said true agree here t e f = cc e
contrary-said false true true t e f = cc f
contrary-said false false false t e f = cc f
contrary-said false true false t e f = refl
contrary-said false false true t e f = refl

kind-shows : (n : ℕ) (here : Bool) (t : List ℤ) (region : List Term) → IsInput n t → holds region t ≡ true → ShowsMember n (if here then k.Same else k.Different t) region
kind-shows n true t region h inside = tt
kind-shows n false t region h inside = (h, inside)

contrary-shows : (n : ℕ) (here : Bool) (t : List ℤ) (region : List Term) → IsInput n t → holds region t ≡ true → ShowsMember n (if here then k.Different t else k.Same) region
contrary-shows n true t region h inside = (h, inside)
contrary-shows n false t region h inside = tt

-- ---- regions with one term more

more-front : (region : List Term) (t : Term) (x : List ℤ) → holds (region ++ t ∷ []) x ≡ true → holds region x ≡ true
more-front region t x h = and-left _ _ (sym (holds-append region (t ∷ []) x) ∙ h)

more-term : (region : List Term) (t : Term) (x : List ℤ) → holds (region ++ t ∷ []) x ≡ true → not (is_zero (term_value t x)) ≡ true
more-term region t x h = and-left _ true (and-right (holds region x) _ (sym (holds-append region (t ∷ []) x) ∙ h))

more-holds : (region : List Term) (t : Term) (x : List ℤ) → holds region x ≡ true → not (is_zero (term_value t x)) ≡ true → holds (region ++ t ∷ []) x ≡ true
more-holds region t x h e = holds-append region (t ∷ []) x ∙ rw (h, e) refl

not-zero : (z : Bool) → z ≡ true → not z ≡ false
not-zero z e = ap not e

nonzero-if : (z : Bool) → z ≡ false → not z ≡ true
nonzero-if z e = ap not e

-- agreement as decided
decided-same : (p q : Bool) → as_decided p q ≡ true → q ≡ p
decided-same true q e = e
decided-same false true e = cc e
decided-same false false e = refl

decided-other : (p q : Bool) → as_decided p q ≡ false → q ≡ not p
decided-other true q e = e
decided-other false true e = refl
decided-other false false e = cc e

decided-own : (p : Bool) → as_decided p p ≡ true
decided-own true = refl
decided-own false = refl

-- ---- the shapes

module _ (pair : Pair) (region : List Term) where
  abbrev AtInput : List ℤ → Type 0
  AtInput x = IsInput pair.before.params x

  pub empty-true : (t : List ℤ) (other : Other) (why : Reason) → ((x : List ℤ) → AtInput x → holds region x ≡ false) → AreTrue pair (parts_of pair region Empty t other why)
  empty-true t other why none = (record { claims = λ x here inside. let no = none x here in cc (inside, no); sample = tt }, tt)

  pub stuck-true : (t : List ℤ) (other : Other) (why : Reason) → AreTrue pair (parts_of pair region Stuck t other why)
  stuck-true t other why = (record { claims = λ x here inside. tt; sample = tt }, tt)

  rests-true : (t : List ℤ) → AreTrue pair (map (unmarked k.Unexplored) (rests region (pair_literals pair region t)))
  rests-true t = open-true pair (rests region (pair_literals pair region t))

  pub beyond-true : (t : List ℤ) (other : Other) (why : Reason) → AtInput t → holds region t ≡ true → verdict pair t ≡ v.Beyond → AreTrue pair (parts_of pair region Beyond t other why)
  beyond-true t other why ht inside long = (
    record {
      claims = λ x hx h.
          let is : long_at pair x ≡ true = long-alike pair region t x ht hx inside h ∙ is-long (long_at pair t) (agree_at pair t) long in
          ap (λ (l : Bool). compared l (agree_at pair x)) is;
      sample = tt;
    },
    rests-true t,
  )

  -- an input of the partition is as short as the one that was run
  short : (t x : List ℤ) → AtInput t → AtInput x → holds region t ≡ true → verdict pair t ≢ v.Beyond → holds (partition pair region t) x ≡ true → long_at pair x ≡ false
  short t x ht hx inside n h = long-alike pair region t x ht hx inside h ∙ is-short (long_at pair t) (agree_at pair t) n

  -- a part whose inputs have the decided equality
  decided-true : (t : List ℤ) (part : List Term) → AtInput t → holds region t ≡ true → verdict pair t ≢ v.Beyond →
      ((x : List ℤ) → AtInput x → holds part x ≡ true → (holds (partition pair region t) x ≡ true) × (not (is_zero (term_value (decided_equality pair t) x)) ≡ true)) →
      holds part t ≡ true → IsTrueOf pair (kind_at pair t) part
  decided-true t part ht inside n lies own = record {
    claims = λ x hx h.
        let at = lies x hx h in
        kind-said (long_at pair x) (agree_at pair x) (agree_at pair t) t (short t x ht hx inside n at.0)
        (decided-same (agree_at pair t) (agree_at pair x) (sym (decided-says pair region t x ht hx at.0) ∙ at.1));
    sample = kind-shows pair.before.params (agree_at pair t) t part ht own;
  }

  own-decided : (t : List ℤ) → AtInput t → holds region t ≡ true → not (is_zero (term_value (decided_equality pair t) t)) ≡ true
  own-decided t ht inside = decided-says pair region t t ht ht (holds-own pair region t ht inside) ∙ decided-own (agree_at pair t)

  pub whole-true : (t : List ℤ) (other : Other) (why : Reason) → AtInput t → holds region t ≡ true → verdict pair t ≢ v.Beyond →
      ((x : List ℤ) → AtInput x → holds (partition pair region t ++ negation (decided_equality pair t) ∷ []) x ≡ false) → AreTrue pair (parts_of pair region Whole t other why)
  whole-true t other why ht inside n none = (
    decided-true t (partition pair region t) ht inside n (λ x hx h. (h, by x hx h (is_zero (term_value (decided_equality pair t) x)) refl)) (holds-own pair region t ht inside),
    rests-true t,
  )
    where
      by : (x : List ℤ) → AtInput x → holds (partition pair region t) x ≡ true → (z : Bool) → is_zero (term_value (decided_equality pair t) x) ≡ z → not (is_zero (term_value (decided_equality pair t) x)) ≡ true
      by x hx h false e = nonzero-if _ e
      by x hx h true e =
          let yes = more-holds (partition pair region t) (negation (decided_equality pair t)) x h (negation-nonzero (decided_equality pair t) x ∙ e) in
          let no = none x hx in
          cc (yes, no)

  split-first : (t : List ℤ) → AtInput t → holds region t ≡ true → verdict pair t ≢ v.Beyond → IsTrueOf pair (kind_at pair t) (partition pair region t ++ decided_equality pair t ∷ [])
  split-first t ht inside n =
      decided-true t (partition pair region t ++ decided_equality pair t ∷ []) ht inside n
      (λ x hx h. (more-front (partition pair region t) (decided_equality pair t) x h, more-term (partition pair region t) (decided_equality pair t) x h))
      (more-holds (partition pair region t) (decided_equality pair t) t (holds-own pair region t ht inside) (own-decided t ht inside))

  split-other : (t y : List ℤ) → AtInput t → holds region t ≡ true → verdict pair t ≢ v.Beyond → AtInput y → holds (partition pair region t ++ negation (decided_equality pair t) ∷ []) y ≡ true →
      IsTrueOf pair (contrary_kind pair t y) (partition pair region t ++ negation (decided_equality pair t) ∷ [])
  split-other t y ht inside n hy there = record {
    claims = λ x hx h.
        let front = more-front (partition pair region t) (negation (decided_equality pair t)) x h in
        let zero : is_zero (term_value (decided_equality pair t) x) ≡ true = sym (negation-nonzero (decided_equality pair t) x) ∙ more-term (partition pair region t) (negation (decided_equality pair t)) x h in
        contrary-said (long_at pair x) (agree_at pair x) (agree_at pair t) y (short t x ht hx inside n front)
        (decided-other (agree_at pair t) (agree_at pair x) (sym (decided-says pair region t x ht hx front) ∙ not-zero _ zero));
    sample = contrary-shows pair.before.params (agree_at pair t) y _ hy there;
  }

  pub found-true : (t y : List ℤ) (why : Reason) → AtInput t → holds region t ≡ true → verdict pair t ≢ v.Beyond → AtInput y → holds (partition pair region t ++ negation (decided_equality pair t) ∷ []) y ≡ true →
      AreTrue pair (parts_of pair region Split t (Other.Found y) why)
  found-true t y why ht inside n hy there = (split-first t ht inside n, (split-other t y ht inside n hy there, rests-true t))

  pub left-true : (t : List ℤ) (left why : Reason) → AtInput t → holds region t ≡ true → verdict pair t ≢ v.Beyond → AreTrue pair (parts_of pair region Split t (Other.Left left) why)
  left-true t left why ht inside n = (split-first t ht inside n, (record { claims = λ x hx h. tt; sample = tt }, rests-true t))
