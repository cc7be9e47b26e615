-- Which marks a set has.
use Rattle.std.proofs.Common.{◌≡◌, ℕ, zero, suc, ◌<◌, ◌/◌, ◌%◌, ◌^◌, ◌==◌, nat_eq, ◌≢◌, Bool, true, false, ◌||◌, [], ◌∷◌, slice_index, refl, sym, ap, ◌∙◌, arith, get_or-set_other}
use Rattle.std.specs.Int.{bit_at}
use Rattle.std.proofs.lemmas.Grind.{get_or-set_at}
use Rattle.std.proofs.lemmas.Nat.Bits.{bit_at-zero, bit_at-pow_same, bit_at-pow_other}
use Rattle.std.proofs.lemmas.Bool.Decides.{nat_tests}
use Rattle.prv_dep.specs.Tables.{has_bit}
use Rattle.prv_select.specs.declared.mark_set.MarkSet.{MarkSet}
use Rattle.prv_select.specs.MarkSets.{no_marks, one_mark, both_words, both_marks, has_mark}
use Rattle.prv_select.proofs.Masks.{has-or}

-- the words of both sets, at a place
words-both : (a b : MarkSet) (i : ℕ) → i < 4 → slice_index (both_marks a b).words i ≡ both_words a b i
words-both a b zero low = refl
words-both a b (suc zero) low = refl
words-both a b (suc (suc zero)) low = refl
words-both a b (suc (suc (suc zero))) low = refl
words-both a b (suc (suc (suc (suc i)))) low = absurd (omega arith)

pub has-both : (a b : MarkSet) (m : ℕ) → m < 256 → has_mark (both_marks a b) m ≡ (has_mark a m || has_mark b m)
has-both a b m low =
    let place : m / 64 < 4 = omega arith in
    ap (λ (n : ℕ). has_bit n (m % 64)) (words-both a b (m / 64) place) ∙ has-or _ _ (m % 64)

none-words : (i : ℕ) → slice_index (0 ∷ 0 ∷ 0 ∷ 0 ∷ []) i ≡ 0
none-words zero = refl
none-words (suc zero) = refl
none-words (suc (suc zero)) = refl
none-words (suc (suc (suc zero))) = refl
none-words (suc (suc (suc (suc i)))) = refl

pub has-none : (m : ℕ) → has_mark no_marks m ≡ false
has-none m = ap (λ (n : ℕ). has_bit n (m % 64)) (none-words (m / 64)) ∙ ap (λ (n : ℕ). n == 1) (bit_at-zero (m % 64))

-- the bits of one mark
bit-one : (i j : ℕ) → has_bit (2 ^ i) j ≡ nat_eq i j
bit-one i j = by (nat_eq i j) refl
  where
    by : (z : Bool) → nat_eq i j ≡ z → has_bit (2 ^ i) j ≡ nat_eq i j
    by true e =
        let same : j ≡ i = grind (arith, nat_tests) in
        ap (λ (n : ℕ). n == 1) (ap (λ (n : ℕ). bit_at (2 ^ i) n) same ∙ bit_at-pow_same i) ∙ sym e
    by false e =
        let other : j ≢ i = grind (arith, nat_tests) in
        ap (λ (n : ℕ). n == 1) (bit_at-pow_other i j other) ∙ sym e

whole : (k m : ℕ) → k / 64 ≡ m / 64 → nat_eq (k % 64) (m % 64) ≡ nat_eq k m
whole k m e = grind (arith, nat_tests)

pub has-one : (k m : ℕ) → m < 256 → has_mark (one_mark k) m ≡ nat_eq k m
has-one k m low = by (nat_eq (k / 64) (m / 64)) refl
  where
    by : (z : Bool) → nat_eq (k / 64) (m / 64) ≡ z → has_mark (one_mark k) m ≡ nat_eq k m
    by true e =
        let same : k / 64 ≡ m / 64 = grind (arith, nat_tests) in
        let place : k / 64 < 4 = omega arith in
        ap (λ (n : ℕ). has_bit n (m % 64)) (get_or-set_at (0 ∷ 0 ∷ 0 ∷ 0 ∷ []) (k / 64) (m / 64) (2 ^ (k % 64)) 0 (sym same) place) ∙ bit-one (k % 64) (m % 64) ∙ whole k m same
    by false e =
        let other : m / 64 ≢ k / 64 = grind (arith, nat_tests) in
        let differ : nat_eq k m ≡ false = grind (arith, nat_tests) in
        ap (λ (n : ℕ). has_bit n (m % 64)) (get_or-set_other (0 ∷ 0 ∷ 0 ∷ 0 ∷ []) (k / 64) (m / 64) (2 ^ (k % 64)) 0 other ∙ none-words (m / 64))
        ∙ ap (λ (n : ℕ). n == 1) (bit_at-zero (m % 64)) ∙ sym differ
