-- What word 32 bits are, by their sign.
use Rattle.std.proofs.Common.{◌≡◌, ℕ, zero, suc, ◌+◌, ◌%◌, ◌^◌, ◌<◌, ◌≤◌, Bool, true, false, not, List, ◌∷◌, length, ℤ, pos, negsuc, refl, sym, ap, ◌∙◌, arith, mod-eq_of_lt, lt-ltb, le-ltb}
use Rattle.std.proofs.lemmas.Bool.{false_from_ne_true}
use Rattle.std.specs.Int.{w32, cast_unsigned, cast_signed}
use Rattle.std.proofs.lemmas.Int.{to_z-of_z}
use mir.ValLaws.{of_z-to_z, of_z_fits, to_z-Fits}
use Rattle.prv_model.specs.Words.{IsWord, is_zero}
use Rattle.prv_bits.specs.Numbers.{number, word, flip, any, digits, bits_of}
use Rattle.prv_bits.proofs.NumberLaws.{number-below, number-flip, length-digits, number-digits, number-same, any-zero, any-nonzero}

pub below-word : (bs : List Bool) → length bs ≡ 32 → number bs < 2 ^ 32
below-word bs h = let k = ap (λ (n : ℕ). 2 ^ n) h in omega (arith, number-below bs)

pub number-word : (bs : List Bool) → length bs ≡ 32 → cast_unsigned w32 (word bs) ≡ number bs
number-word bs h = of_z-to_z w32 (number bs) (record { fits = below-word bs h })

-- a word tells its bits
pub word-same : (xs ys : List Bool) → length xs ≡ 32 → length ys ≡ 32 → word xs ≡ word ys → xs ≡ ys
word-same xs ys h k e = number-same xs ys (h ∙ sym k) (sym (number-word xs h) ∙ ap (cast_unsigned w32) e ∙ number-word ys k)

-- and has them
pub word-digits : (k : ℕ) (z : ℤ) → k ≡ 32 → IsWord z → word (digits k (cast_unsigned w32 z)) ≡ z
word-digits k z e h =
    let n = cast_unsigned w32 z in
    ap (cast_signed w32) (number-digits k n ∙ ap (λ (j : ℕ). n % 2 ^ j) e ∙ mod-eq_of_lt (of_z_fits w32 z h).fits) ∙ to_z-of_z w32 z h

pub word-bits_of : (z : ℤ) → IsWord z → word (bits_of z) ≡ z
word-bits_of z h = word-digits 32 z refl h

pub IsWord-word : (bs : List Bool) → length bs ≡ 32 → IsWord (word bs)
IsWord-word bs h = to_z-Fits w32 (number bs) (record { fits = below-word bs h })

pub bits_of-word : (bs : List Bool) → length bs ≡ 32 → bits_of (word bs) ≡ bs
bits_of-word bs h =
    word-same (bits_of (word bs)) bs (length-digits 32 (cast_unsigned w32 (word bs))) h (word-bits_of (word bs) (IsWord-word bs h))

-- by the sign
cast-low : (n : ℕ) → n < 2 ^ 31 → cast_signed w32 n ≡ pos n
cast-low n h = rw (lt-ltb n (2 ^ 31) h) refl

cast-high : (n f : ℕ) → 2 ^ 31 ≤ n → n + suc f ≡ 2 ^ 32 → cast_signed w32 n ≡ negsuc f
cast-high n f h e = rw (le-ltb n (2 ^ 31) h) (ap negsuc (omega arith))

pub word-low : (bs : List Bool) → number bs < 2 ^ 31 → word bs ≡ pos (number bs)
word-low bs h = cast-low (number bs) h

pub word-high : (bs : List Bool) → length bs ≡ 32 → 2 ^ 31 ≤ number bs → word bs ≡ negsuc (number (flip bs))
word-high bs w h = let p = ap (λ (n : ℕ). 2 ^ n) w in cast-high (number bs) (number (flip bs)) h (omega (arith, number-flip bs))

pub word-positive : (bs : List Bool) → length bs ≡ 31 → word (false ∷ bs) ≡ pos (number bs)
word-positive bs h =
    let p = ap (λ (n : ℕ). 2 ^ n) h in
    word-low (false ∷ bs) (omega (arith, number-below bs)) ∙ ap pos (omega arith)

pub word-negative : (bs : List Bool) → length bs ≡ 31 → word (true ∷ bs) ≡ negsuc (number (flip bs))
word-negative bs h =
    let p = ap (λ (n : ℕ). 2 ^ n) h in
    word-high (true ∷ bs) (omega arith) (omega arith) ∙ ap negsuc (omega arith)

-- a word is 0 where no bit is set
zero-from : (z : ℤ) → is_zero z ≡ true → cast_unsigned w32 z ≡ 0
zero-from (pos zero) h = refl
zero-from (pos (suc n)) h = cc
zero-from (negsuc n) h = cc

word-zero : (bs : List Bool) (t : Bool) → length bs ≡ 32 → any bs ≡ t → is_zero (word bs) ≡ not t
word-zero bs true w h = false_from_ne_true (is_zero (word bs)) (λ e. let n = sym (number-word bs w) ∙ zero-from (word bs) e in omega (arith, any-nonzero bs h))
word-zero bs false w h = ap is_zero (ap (cast_signed w32) (any-zero bs h))

pub is_zero-word : (bs : List Bool) → length bs ≡ 32 → is_zero (word bs) ≡ not (any bs)
is_zero-word bs w = word-zero bs (any bs) w refl
