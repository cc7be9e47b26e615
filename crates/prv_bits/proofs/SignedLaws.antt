-- What signs, negatives and comparisons of words are worth.
use Rattle.std.proofs.Common.{◌≡◌, ℕ, zero, suc, ◌-◌, ◌/◌, ◌%◌, ◌^◌, ◌<◌, Bool, true, false, not, ltb, leb, List, [], ◌∷◌, length, ℤ, pos, negsuc, neg_ℤ, nat_abs, int_lt, int_le, int_div, int_rem, refl, sym, ap, ap₂, ◌∙◌, arith, pow-suc, mod-eq_of_lt, le-leb, ltb-true, ltb-false}
use borrow.Author.Tests.{lt-leb}
use Rattle.std.specs.Int.{w32, cast_unsigned, cast_signed}
use Rattle.std.specs.Int.Signed.{mag}
use Rattle.prv_model.specs.Words.{wrap, flag}
use Rattle.prv_model.proofs.WordLemmas.{cast-wrap}
use Rattle.prv_bits.specs.Gates.{xor}
use Rattle.prv_bits.specs.Numbers.{bit, number, word, flip, sign}
use Rattle.prv_bits.specs.Sums.{negate_if, magnitude}
use Rattle.prv_bits.specs.Orders.{signed_below, flag_bits}
use Rattle.prv_bits.proofs.NumberLaws.{number-below, number-flip, length-flip}
use Rattle.prv_bits.proofs.WordLaws.{word-positive, word-negative, below-word}
use Rattle.prv_bits.proofs.SumLaws.{number-kept, number-negated}
use Rattle.prv_bits.proofs.OrderLaws.{same-order, below-is, number-flag_bits}

-- the number, or its negative
abbrev pub signed : Bool → ℕ → ℤ
signed false n = pos n
signed true n = neg_ℤ (pos n)

-- whether a number is below 0
abbrev pub negative : ℤ → Bool
negative (pos n) = false
negative (negsuc n) = true

-- signs and magnitudes
pub sign-word : (bs : List Bool) → length bs ≡ 32 → sign bs ≡ negative (word bs)
sign-word [] h = cc
sign-word (true ∷ bs) h = sym (ap negative (word-negative bs (omega arith)))
sign-word (false ∷ bs) h = sym (ap negative (word-positive bs (omega arith)))

pub magnitude-is : (bs : List Bool) → length bs ≡ 32 → number (magnitude bs) ≡ nat_abs (word bs)
magnitude-is [] h = cc
magnitude-is (true ∷ bs) h =
    let n = 2 ^ length (true ∷ bs) in
    let p : n ≡ 2 ^ 32 = ap (λ (m : ℕ). 2 ^ m) h in
    let e : n - number (true ∷ bs) ≡ suc (number (flip bs)) = omega (arith, number-flip (true ∷ bs)) in
    let b : suc (number (flip bs)) < n =
    omega (arith, number-below (flip bs), ap (λ (m : ℕ). 2 ^ m) (length-flip bs), pow-suc 2 (length bs)) in
    number-negated (true ∷ bs) ∙ ap (λ (m : ℕ). m % n) e ∙ mod-eq_of_lt b ∙ sym (ap nat_abs (word-negative bs (omega arith)))
magnitude-is (false ∷ bs) h = number-kept (false ∷ bs) ∙ sym (ap nat_abs (word-positive bs (omega arith)) ∙ omega arith)

neg-bits : (n : ℕ) → n < 2 ^ 32 → (2 ^ 32 - n) % 2 ^ 32 ≡ cast_unsigned w32 (neg_ℤ (pos n))
neg-bits zero h = refl
neg-bits (suc n) h = mod-eq_of_lt (omega arith)

neg-near : (n : ℕ) → n < 2 ^ 32 → mag (neg_ℤ (pos n)) < 2 ^ 32
neg-near zero h = h
neg-near (suc n) h = omega arith

pub word-negate_if : (c : Bool) (bs : List Bool) → length bs ≡ 32 → word (negate_if c bs) ≡ wrap (signed c (number bs))
word-negate_if false bs h = ap (cast_signed w32) (number-kept bs) ∙ cast-wrap (pos (number bs)) (below-word bs h)
word-negate_if true bs h =
    ap (cast_signed w32) (number-negated bs ∙ ap (λ (k : ℕ). (2 ^ k - number bs) % 2 ^ k) h ∙ neg-bits (number bs) (below-word bs h))
    ∙ cast-wrap (neg_ℤ (pos (number bs))) (neg-near (number bs) (below-word bs h))

-- division by signs and magnitudes
pub signed-quotient : (a b : ℤ) → signed (xor (negative a) (negative b)) (nat_abs a / nat_abs b) ≡ int_div a b
signed-quotient (pos a) (pos b) = refl
signed-quotient (pos a) (negsuc b) = refl
signed-quotient (negsuc a) (pos b) = refl
signed-quotient (negsuc a) (negsuc b) = refl

pub signed-remainder : (a b : ℤ) → signed (negative a) (nat_abs a % nat_abs b) ≡ int_rem a b
signed-remainder (pos a) b = refl
signed-remainder (negsuc a) b = refl

-- orders
pub signed_below-is : (xs ys : List Bool) → length xs ≡ 32 → length ys ≡ 32 → signed_below xs ys ≡ int_lt (word xs) (word ys)
signed_below-is [] ys h k = cc
signed_below-is (x ∷ xs) [] h k = cc
signed_below-is (false ∷ xs) (false ∷ ys) h k =
    below-is xs ys (omega arith) ∙ sym (ap₂ int_lt (word-positive xs (omega arith)) (word-positive ys (omega arith)))
signed_below-is (true ∷ xs) (true ∷ ys) h k =
    let w : length xs ≡ length ys = omega arith in
    let p = ap (λ (n : ℕ). 2 ^ n) w in
    let f = number-flip xs in
    let g = number-flip ys in
    below-is xs ys w ∙ same-order _ _ (number (flip ys)) (number (flip xs)) (λ e. omega arith) (λ e. omega arith)
    ∙ sym (ap₂ int_lt (word-negative xs (omega arith)) (word-negative ys (omega arith)))
signed_below-is (false ∷ xs) (true ∷ ys) h k = sym (ap₂ int_lt (word-positive xs (omega arith)) (word-negative ys (omega arith)))
signed_below-is (true ∷ xs) (false ∷ ys) h k = sym (ap₂ int_lt (word-negative xs (omega arith)) (word-positive ys (omega arith)))

turned : (t : Bool) (a b : ℕ) → ltb b a ≡ t → not t ≡ leb a b
turned true a b e = sym (lt-leb a b (ltb-true b a e))
turned false a b e = sym (le-leb a b (ltb-false b a e))

pub not-below : (a b : ℤ) → not (int_lt b a) ≡ int_le a b
not-below (pos a) (pos b) = turned (ltb b a) a b refl
not-below (pos a) (negsuc b) = refl
not-below (negsuc a) (pos b) = refl
not-below (negsuc a) (negsuc b) = turned (ltb a b) b a refl

flag-cast : (b : Bool) → cast_signed w32 (bit b) ≡ flag b
flag-cast true = refl
flag-cast false = refl

pub word-flag_bits : (n : ℕ) (b : Bool) → word (flag_bits n b) ≡ flag b
word-flag_bits n b = ap (cast_signed w32) (number-flag_bits n b) ∙ flag-cast b
