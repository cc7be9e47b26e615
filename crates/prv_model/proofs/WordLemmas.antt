-- What is left of a number in 32 bits is its word.
use Rattle.std.proofs.Common.{◌≡◌, ℕ, zero, suc, ◌/◌, ◌^◌, ◌<◌, ◌≤◌, ℤ, pos, negsuc, neg_ℤ, ap, refl, arith, int_div, false}
use Rattle.std.specs.Int.{w32, cast_unsigned, cast_signed, int_wrap}
use Rattle.std.specs.Int.Signed.{mag}
use native.Mathlib.Nat.{div-le_self}
use Rattle.prv_model.specs.Words.{is_zero}

-- of a number that is less than 2^32 away from 0
pub cast-wrap : (z : ℤ) → mag z < 2 ^ 32 → cast_signed w32 (cast_unsigned w32 z) ≡ int_wrap w32 z
unfolding int_wrap
cast-wrap (pos n) near = ap (cast_signed w32) (omega arith)
cast-wrap (negsuc n) near = ap (cast_signed w32) (omega arith)

mag-neg : (n m : ℕ) → n ≤ m → mag (neg_ℤ (pos n)) ≤ m
mag-neg zero m h = omega arith
mag-neg (suc n) m h = omega arith

-- a quotient of words is at most 2^31 away from 0
pub mag-quotient : (a b : ℤ) → mag a < 2 ^ 31 → mag (int_div a b) < 2 ^ 32
mag-quotient (pos a) (pos b) h = omega (arith, div-le_self a b)
mag-quotient (pos a) (negsuc b) h = omega (arith, mag-neg (a / suc b) a (div-le_self a (suc b)))
mag-quotient (negsuc a) (pos b) h = omega (arith, mag-neg (suc a / b) (suc a) (div-le_self (suc a) b))
mag-quotient (negsuc a) (negsuc b) h = omega (arith, div-le_self (suc a) (suc b))

-- a word whose bits are not 0 is not 0
pub is_zero-bits : (b : ℤ) → mag b < 2 ^ 31 → (cast_unsigned w32 b ≡ 0 → ⊥) → is_zero b ≡ false
is_zero-bits (pos zero) near h = absurd (h refl)
is_zero-bits (pos (suc n)) near h = refl
is_zero-bits (negsuc n) near h = refl
