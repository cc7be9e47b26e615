-- The marks of a version, and the table of the numbers that were seen.
use Rattle.std.proofs.Common.{◌≡◌, ◌≢◌, ℕ, ◌+◌, ◌<◌, Bool, true, false, List, length, get_or, set, replicate, zero, suc, refl, Option, Some, sym, ◌∙◌, ap, arith, ◌⊎◌, inl, inr}
use Rattle.std.proofs.lemmas.List.{get_or-set_same, get_or-set_other, length-set}
use Rattle.std.specs.Option.{option_map}
use Rattle.std.proofs.lemmas.Option.{slice_get-get_or, slice_get_cases, same_Some, none-some}
use Rattle.prv_names.specs.declared.version.MarkAt.{MarkAt}
use Rattle.prv_marks.proofs.Orders.{order}
use Rattle.prv_marks.specs.Marks.{number_at, DifferBelow, AreUsedOnce, IsUsedTwice}

-- the table of 256 says of each number whether it is one of the first n marks, and these differ
pub record IsSeen (marks : List MarkAt) (seen : List Bool) (n : ℕ) : Type 0 where
  pub size : length seen ≡ 256
  pub differ : DifferBelow n marks
  pub found : (k : ℕ) → get_or seen k false ≡ true → (j : ℕ) × (j < n) × (number_at marks j ≡ Some k)
  pub noted : (j k : ℕ) → j < n → number_at marks j ≡ Some k → get_or seen k false ≡ true

nothing_true : (n k : ℕ) → get_or (replicate n false) k false ≡ false
nothing_true zero k = refl
nothing_true (suc n) zero = refl
nothing_true (suc n) (suc k) = nothing_true n k

-- at first nothing was seen
pub seen_none : (marks : List MarkAt) → IsSeen marks (replicate 256 false) 0
seen_none marks = record {
  size = refl;
  differ = λ i j in_order below. absurd (omega arith);
  found = λ k old. let new : get_or (replicate 256 false) k false ≡ false = nothing_true 256 k in absurd (cc);
  noted = λ j k below is. absurd (omega arith);
}

-- what reading a mark by its index gives
pub number_read : (marks : List MarkAt) (i : ℕ) (d : MarkAt) → i < length marks → number_at marks i ≡ Some (get_or marks i d).mark
number_read marks i d below = ap (λ (o : Option MarkAt). option_map (λ (m : MarkAt). m.mark) o) (slice_get-get_or marks i d below)

-- a mark that was seen is used twice
pub seen_twice : (marks : List MarkAt) (seen : List Bool) (i m : ℕ) → IsSeen marks seen i → number_at marks i ≡ Some m → get_or seen m false ≡ true → IsUsedTwice marks m
seen_twice marks seen i m kept here old =
    let earlier = kept.found m old in
    record { first = earlier.0; second = i; in_order = earlier.1; used = earlier.2; again = here; once_before = kept.differ }

-- one more mark, whose number was not seen yet
at_or_below : (i j : ℕ) → j < i + 1 → (j < i) ⊎ (j ≡ i)
at_or_below i j below = grind arith

equal_or_not : (k m : ℕ) → (k ≡ m) ⊎ (k ≢ m)
equal_or_not k m = grind arith

-- a number that wasn't seen is none of the first n
not_noted : (marks : List MarkAt) (seen : List Bool) (i m j : ℕ) → IsSeen marks seen i → get_or seen m false ≡ false → j < i → number_at marks j ≢ Some m
not_noted marks seen i m j kept fresh below same =
    let old : get_or seen m false ≡ true = kept.noted j m below same in
    cc

differ_more : (marks : List MarkAt) (seen : List Bool) (i m : ℕ) → IsSeen marks seen i → number_at marks i ≡ Some m → get_or seen m false ≡ false → DifferBelow (i + 1) marks
differ_more marks seen i m kept here fresh a b in_order below = elim (at_or_below i b below) [
  | inl earlier ↦ kept.differ a b in_order earlier
  | inr last ↦ λ same. not_noted marks seen i m a kept fresh (omega arith) (same ∙ ap (λ (v : ℕ). number_at marks v) last ∙ here)
]

found_more : (marks : List MarkAt) (seen : List Bool) (i m k : ℕ) → IsSeen marks seen i → number_at marks i ≡ Some m → get_or (set seen m true) k false ≡ true → (j : ℕ) × (j < i + 1) × (number_at marks j ≡ Some k)
found_more marks seen i m k kept here is_true = elim (equal_or_not k m) [
  | inl same ↦ (i, omega arith, here ∙ ap (λ (v : ℕ). Some v) (sym same))
  | inr other ↦
      let earlier = kept.found k (sym (get_or-set_other seen m k true false other) ∙ is_true) in
      (earlier.0, omega (arith, earlier.1), earlier.2)
]

noted_more : (marks : List MarkAt) (seen : List Bool) (i m j k : ℕ) → IsSeen marks seen i → number_at marks i ≡ Some m → m < length seen → j < i + 1 → number_at marks j ≡ Some k → get_or (set seen m true) k false ≡ true
noted_more marks seen i m j k kept here within below is = elim (equal_or_not k m) [
  | inl same ↦ rw same (get_or-set_same seen m true false within)
  | inr other ↦ get_or-set_other seen m k true false other ∙ elim (at_or_below i j below) [
    | inl earlier ↦ kept.noted j k earlier is
    | inr last ↦ absurd (other (same_Some k m (sym is ∙ ap (λ (v : ℕ). number_at marks v) last ∙ here)))
  ]
]

-- one more mark, whose number was not seen yet
pub seen_more : (marks : List MarkAt) (seen : List Bool) (i m : ℕ) → IsSeen marks seen i → number_at marks i ≡ Some m → m < 256 → get_or seen m false ≡ false → IsSeen marks (set seen m true) (i + 1)
seen_more marks seen i m kept here small fresh = record {
  size = length-set seen m true ∙ kept.size;
  differ = differ_more marks seen i m kept here fresh;
  found = λ k. found_more marks seen i m k kept here;
  noted = λ j k. noted_more marks seen i m j k kept here (omega arith);
}

-- where an earlier mark than the second use has been used before, marks before the second use don't differ
earlier_twice : (marks : List MarkAt) (m n : ℕ) → (p : IsUsedTwice marks m) (q : IsUsedTwice marks n) → p.second < q.second → ⊥
earlier_twice marks m n p q below = q.once_before p.first p.second p.in_order below (p.used ∙ sym p.again)

-- the number whose second use comes first is the only one
pub one_twice : (marks : List MarkAt) (m n : ℕ) → IsUsedTwice marks m → IsUsedTwice marks n → m ≡ n
one_twice marks m n p q = elim (order p.second q.second) [
  | inl below ↦ absurd (earlier_twice marks m n p q below)
  | inr rest ↦ elim rest [
    | inl same ↦ same_Some m n (sym p.again ∙ ap (λ (v : ℕ). number_at marks v) same ∙ q.again)
    | inr above ↦ absurd (earlier_twice marks n m q p above)
  ]
]

-- the index of a mark is below their count
within : (marks : List MarkAt) (i m : ℕ) → number_at marks i ≡ Some m → i < length marks
within marks i m is = elim (slice_get_cases marks i).1 [
  | inl there ↦ there.1
  | inr past ↦ absurd (none-some m (sym (ap (λ (o : Option MarkAt). option_map (λ (u : MarkAt). u.mark) o) past.1) ∙ is))
]

pub once_not_twice : (marks : List MarkAt) (m : ℕ) → AreUsedOnce marks → IsUsedTwice marks m → ⊥
once_not_twice marks m once p = once p.first p.second p.in_order (within marks p.second m p.again) (p.used ∙ sym p.again)
