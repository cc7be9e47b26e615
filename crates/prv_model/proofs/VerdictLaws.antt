-- What the comparison of two outcomes says.
use Rattle.std.proofs.Common.{◌≡◌, ◌≢◌, ◌↔◌, ◌⊎◌, inl, inr, Bool, true, false, ◌&&◌, ◌||◌, if◌then◌else◌, refl, sym, ap, ◌∙◌, subst}
use Rattle.std.specs.Cmp.{signed_Decides}
use lib.Pointwise.{pointwise_decides}
use Rattle.prv_model.specs.Comparison.{compare, is_long, ending_eq, outcome_eq}
use Rattle.prv_model.specs.declared.outcome.Ending.{Ending}
use Rattle.prv_model.specs.declared.outcome.Ending.TheVariants.{Returned, Fault, Assert, Long}
use Rattle.prv_model.specs.declared.outcome.Outcome.{Outcome}
use Rattle.prv_model.specs.declared.verdict.Verdict.{Verdict}
use Rattle.prv_model.specs.declared.verdict.Verdict.TheVariants.{Beyond, Same, Differ}

ending-same : (h k : Ending) → ending_eq h k ≡ true → h ≡ k
ending-same Returned Returned e = refl
ending-same Fault Fault e = refl
ending-same Assert Assert e = refl
ending-same Long Long e = refl
ending-same h k e = cc

ending-itself : (h : Ending) → ending_eq h h ≡ true
ending-itself Returned = refl
ending-itself Fault = refl
ending-itself Assert = refl
ending-itself Long = refl

first : (s t : Bool) → (s && t) ≡ true → s ≡ true
first true t h = refl
first false t h = h

second : (s t : Bool) → (s && t) ≡ true → t ≡ true
second true t h = h
second false t h = cc

both : (s t : Bool) → s ≡ true → t ≡ true → (s && t) ≡ true
both true t h k = k
both false t h k = h

pub outcome-same : (a b : Outcome) → outcome_eq a b ≡ true → a ≡ b
outcome-same a b e =
    let how : a.how ≡ b.how = ending-same a.how b.how (first _ _ e) in
    let outs : a.outs ≡ b.outs = (pointwise_decides signed_Decides a.outs b.outs).0 (second (ending_eq a.how b.how) _ e) in
    λ i. record { outs = outs i; how = how i }

outcome-itself : (a : Outcome) → outcome_eq a a ≡ true
outcome-itself a = both _ _ (ending-itself a.how) ((pointwise_decides signed_Decides a.outs a.outs).1 refl)

pub outcome-equal : (a b : Outcome) → a ≡ b → outcome_eq a b ≡ true
outcome-equal a b e = subst (λ (c : Outcome). outcome_eq a c ≡ true) e (outcome-itself a)

long-is : (h : Ending) → is_long h ≡ true → h ≡ Long
long-is Long e = refl
long-is h e = cc

short-is : (h : Ending) → is_long h ≡ false → h ≢ Long
short-is Long e = λ _. cc
short-is h e = λ k. cc

is-long : (h : Ending) → h ≡ Long → is_long h ≡ true
is-long h e = ap is_long e

is-short : (h : Ending) → h ≢ Long → is_long h ≡ false
is-short Long n = absurd (n refl)
is-short h n = refl

refuted : (t : Bool) → (t ≡ true → ⊥) → t ≡ false
refuted true n = absurd (n refl)
refuted false n = refl

-- the choice of a verdict
pick : Bool → Bool → Bool → Verdict
pick s t e = if s || t then Beyond else if e then Same else Differ

is-beyond : (s t e : Bool) → pick s t e ≡ Beyond → (s ≡ true) ⊎ (t ≡ true)
unfolding pick
is-beyond true t e h = inl refl
is-beyond false true e h = inr refl
is-beyond false false true h = cc
is-beyond false false false h = cc

beyond-is : (s t e : Bool) → (s ≡ true) ⊎ (t ≡ true) → pick s t e ≡ Beyond
unfolding pick
beyond-is true t e h = refl
beyond-is false true e h = refl
beyond-is false false e h = elim h [ inl k ↦ cc | inr k ↦ cc ]

is-same : (s t e : Bool) → pick s t e ≡ Same → (s ≡ false) × (t ≡ false) × (e ≡ true)
unfolding pick
is-same true t e h = cc
is-same false true e h = cc
is-same false false true h = (refl, refl, refl)
is-same false false false h = cc

is-differ : (s t e : Bool) → pick s t e ≡ Differ → (s ≡ false) × (t ≡ false) × (e ≡ false)
unfolding pick
is-differ true t e h = cc
is-differ false true e h = cc
is-differ false false true h = cc
is-differ false false false h = (refl, refl, refl)

picked : (a b : Outcome) → compare a b ≡ pick (is_long a.how) (is_long b.how) (outcome_eq a b)
unfolding pick
picked a b = refl

pub beyond_law : (a b : Outcome) → (compare a b ≡ Beyond) ↔ ((a.how ≡ Long) ⊎ (b.how ≡ Long))
beyond_law a b = (
  λ h. elim (is-beyond _ _ _ (sym (picked a b) ∙ h)) [ inl k ↦ inl (long-is a.how k) | inr k ↦ inr (long-is b.how k) ],
  λ h. picked a b ∙ beyond-is _ _ _ (elim h [ inl k ↦ inl (is-long a.how k) | inr k ↦ inr (is-long b.how k) ]),
)

pub same_law : (a b : Outcome) → (compare a b ≡ Same) ↔ ((a.how ≢ Long) × (b.how ≢ Long) × (a ≡ b))
same_law a b = (
  λ h. let k = is-same _ _ _ (sym (picked a b) ∙ h) in (short-is a.how k.0, short-is b.how k.1, outcome-same a b k.2),
  λ h. rw (is-short a.how h.0, is-short b.how h.1, outcome-equal a b h.2) refl,
)

pub differ_law : (a b : Outcome) → (compare a b ≡ Differ) ↔ ((a.how ≢ Long) × (b.how ≢ Long) × (a ≢ b))
differ_law a b = (
  λ h. let k = is-differ _ _ _ (sym (picked a b) ∙ h) in (short-is a.how k.0, short-is b.how k.1, λ e. let yes = outcome-equal a b e in cc (yes, k.2)),
  λ h. rw (is-short a.how h.0, is-short b.how h.1, refuted (outcome_eq a b) (λ e. h.2 (outcome-same a b e))) refl,
)
