-- What quotients and remainders of lists of bits are worth, and which zeros may be left out.
use Rattle.std.proofs.Common.{◌≡◌, ℕ, suc, ◌+◌, ◌*◌, ◌/◌, ◌%◌, ◌^◌, ◌<◌, ◌≤◌, Bool, true, false, List, [], ◌∷◌, ◌++◌, length, refl, sym, ap, ap₂, ◌∙◌, arith, length-append, pow-suc, zero-le}
use Rattle.std.proofs.lemmas.List.{length-replicate}
use Rattle.std.proofs.lemmas.Nat.{div-mul-add, mod-mul-add}
use Rattle.prv_bits.specs.Numbers.{bit, number, zeros}
use Rattle.prv_bits.specs.Places.{padded}
use Rattle.prv_bits.specs.Quotients.{fits, reduce, quotient, rest, divided, left_over}
use Rattle.prv_bits.proofs.NumberLaws.{number-append, number-zeros, number-padded, number-gated, length-gated, number-same}
use Rattle.prv_bits.proofs.PlaceLaws.{length-padded}
use Rattle.prv_bits.proofs.DivisionSteps.{length-reduce, reduce-is}

pub length-quotient : (d r xs : List Bool) → length (quotient d r xs) ≡ length xs
length-quotient d r [] = refl
length-quotient d r (x ∷ xs) = ap suc (length-quotient d (reduce d (r ++ x ∷ [])) xs)

pub length-rest : (d r xs : List Bool) → length r ≤ length d → (length (rest d r xs) ≤ length d) × (length (rest d r xs) ≤ length r + length xs)
length-rest d r [] h = (h, omega arith)
length-rest d r (x ∷ xs) h =
    let s = r ++ x ∷ [] in
    let w = length-reduce d s in
    let l : length s ≡ length r + 1 = length-append r (x ∷ []) in
    let later = length-rest d (reduce d s) xs (omega arith) in
    (later.0, omega (arith, later.1))

-- one step and the others
joined : (d f q p t r b x s n : ℕ) → d * q + t ≡ n * p + x → n + f * d ≡ s → s ≡ r * 2 + b → d * (f * p + q) + t ≡ r * (p * 2) + (b * p + x)
joined d f q p t r b x s n e g h =
    let scaled = ap (λ (m : ℕ). m * p) g in
    let scaled' = ap (λ (m : ℕ). m * p) h in
    omega arith

bit-le : (b : Bool) → bit b ≤ 1
bit-le true = omega arith
bit-le false = omega arith

-- the divisor times the quotient and the remainder are the dividend, and the remainder is less than the divisor
pub divides : (d r xs : List Bool) → number r < number d → (number d * number (quotient d r xs) + number (rest d r xs) ≡ number r * 2 ^ length xs + number xs) × (number (rest d r xs) < number d)
divides d r [] h = (omega arith, h)
divides d r (x ∷ xs) h =
    let s = r ++ x ∷ [] in
    let now : number s ≡ number r * 2 + bit x = number-append r (x ∷ []) ∙ omega arith in
    let step = reduce-is d s (omega (arith, bit-le x)) in
    let later = divides d (reduce d s) xs step.1 in
    let p = 2 ^ length xs in
    let q = number (quotient d (reduce d s) xs) in
    let t = number (rest d (reduce d s) xs) in
    let whole = joined (number d) (bit (fits d s)) q p t (number r) (bit x) (number xs) (number s) (number (reduce d s)) later.0 step.0 now in
    let width = ap (λ (n : ℕ). number d * (bit (fits d s) * 2 ^ n + q)) (length-quotient d (reduce d s) xs) in
    let power = ap (λ (n : ℕ). number r * n) (pow-suc 2 (length xs)) in
    (omega arith, later.1)

-- so they are those of numbers
module _ (d r xs : List Bool) (h : number r < number d) where
  pub quotient-is : number (quotient d r xs) ≡ (number r * 2 ^ length xs + number xs) / number d
  quotient-is =
      let whole = divides d r xs h in
      sym (div-mul-add (number (quotient d r xs)) (number d) (number (rest d r xs)) whole.1)
      ∙ ap (λ (n : ℕ). n / number d) (omega (arith, whole.0))

  pub rest-is : number (rest d r xs) ≡ (number r * 2 ^ length xs + number xs) % number d
  rest-is =
      let whole = divides d r xs h in
      sym (mod-mul-add (number (quotient d r xs)) (number d) (number (rest d r xs)) whole.1)
      ∙ ap (λ (n : ℕ). n % number d) (omega (arith, whole.0))

-- a division turns on the numbers alone, whatever zeros lead the divisor and what is left
pub one-quotient : (d e r s xs : List Bool) → number d ≡ number e → number r ≡ number s → number r < number d → quotient d r xs ≡ quotient e s xs
one-quotient d e r s xs f g h =
    number-same (quotient d r xs) (quotient e s xs) (length-quotient d r xs ∙ sym (length-quotient e s xs))
    (quotient-is d r xs h ∙ ap₂ (λ (m n : ℕ). (m * 2 ^ length xs + number xs) / n) g f ∙ sym (quotient-is e s xs (omega arith)))

pub one-rest : (d e r s xs : List Bool) → number d ≡ number e → number r ≡ number s → number r < number d → number (rest d r xs) ≡ number (rest e s xs)
one-rest d e r s xs f g h =
    rest-is d r xs h ∙ ap₂ (λ (m n : ℕ). (m * 2 ^ length xs + number xs) % n) g f ∙ sym (rest-is e s xs (omega arith))

-- zeros that lead the dividend
number-zeros-append : (k : ℕ) (bs : List Bool) → number (zeros k ++ bs) ≡ number bs
number-zeros-append k bs = number-append (zeros k) bs ∙ omega (arith, ap (λ (n : ℕ). n * 2 ^ length bs) (number-zeros k))

length-zeros-append : (k : ℕ) (bs : List Bool) → length (zeros k ++ bs) ≡ k + length bs
length-zeros-append k bs = length-append (zeros k) bs ∙ ap (λ (n : ℕ). n + length bs) (length-replicate k false)

from-nothing : (p q n m : ℕ) → n ≡ m → 0 * p + n ≡ 0 * q + m
from-nothing p q n m e = omega arith

pub quotient-zeros : (k : ℕ) (d xs : List Bool) → 0 < number d → quotient d [] (zeros k ++ xs) ≡ zeros k ++ quotient d [] xs
quotient-zeros k d xs h =
    number-same (quotient d [] (zeros k ++ xs)) (zeros k ++ quotient d [] xs)
    (length-quotient d [] (zeros k ++ xs) ∙ length-zeros-append k xs ∙ sym (length-zeros-append k (quotient d [] xs) ∙ ap (λ (n : ℕ). k + n) (length-quotient d [] xs)))
    (quotient-is d [] (zeros k ++ xs) h ∙ ap (λ (n : ℕ). n / number d) (from-nothing _ _ _ _ (number-zeros-append k xs)) ∙ sym (number-zeros-append k (quotient d [] xs) ∙ quotient-is d [] xs h))

pub rest-zeros : (k : ℕ) (d xs : List Bool) → 0 < number d → number (rest d [] (zeros k ++ xs)) ≡ number (rest d [] xs)
rest-zeros k d xs h =
    rest-is d [] (zeros k ++ xs) h ∙ ap (λ (n : ℕ). n % number d) (from-nothing _ _ _ _ (number-zeros-append k xs)) ∙ sym (rest-is d [] xs h)

-- the answers that are masked
pub length-divided : (c : Bool) (xs d : List Bool) → length (divided c xs d) ≡ length xs
length-divided c xs d = length-gated c (quotient d [] xs) ∙ length-quotient d [] xs

pub length-left_over : (c : Bool) (xs d : List Bool) → length (left_over c xs d) ≡ length xs
length-left_over c xs d =
    length-gated c (padded false (length xs) (rest d [] xs))
    ∙ length-padded false (length xs) (rest d [] xs) (omega (arith, (length-rest d [] xs zero-le).1))

pub divided-is : (c : Bool) (xs d : List Bool) → (c ≡ true → 0 < number d) → number (divided c xs d) ≡ bit c * (number xs / number d)
divided-is true xs d h = number-gated true (quotient d [] xs) ∙ ap (λ (n : ℕ). 1 * n) (quotient-is d [] xs (h refl) ∙ ap (λ (n : ℕ). n / number d) (omega arith))
divided-is false xs d h = number-gated false (quotient d [] xs) ∙ omega arith

pub left_over-is : (c : Bool) (xs d : List Bool) → (c ≡ true → 0 < number d) → number (left_over c xs d) ≡ bit c * (number xs % number d)
left_over-is true xs d h =
    number-gated true (padded false (length xs) (rest d [] xs))
    ∙ ap (λ (n : ℕ). 1 * n) (number-padded (length xs) (rest d [] xs) ∙ rest-is d [] xs (h refl) ∙ ap (λ (n : ℕ). n % number d) (omega arith))
left_over-is false xs d h = number-gated false (padded false (length xs) (rest d [] xs)) ∙ omega arith

-- zeros that lead the dividend or the divisor may be left out
module _ (c : Bool) (j k : ℕ) (xs d : List Bool) (h : c ≡ true → 0 < number d) where
  h' : c ≡ true → 0 < number (zeros j ++ d)
  h' e = let n = number-zeros-append j d in let m = h e in omega arith

  pub divided-zeros : divided c (zeros k ++ xs) (zeros j ++ d) ≡ zeros k ++ divided c xs d
  divided-zeros =
      number-same (divided c (zeros k ++ xs) (zeros j ++ d)) (zeros k ++ divided c xs d)
      (length-divided c (zeros k ++ xs) (zeros j ++ d) ∙ length-zeros-append k xs ∙ sym (length-zeros-append k (divided c xs d) ∙ ap (λ (n : ℕ). k + n) (length-divided c xs d)))
      (divided-is c (zeros k ++ xs) (zeros j ++ d) h' ∙ ap₂ (λ (m n : ℕ). bit c * (m / n)) (number-zeros-append k xs) (number-zeros-append j d) ∙ sym (number-zeros-append k (divided c xs d) ∙ divided-is c xs d h))

  pub left_over-zeros : left_over c (zeros k ++ xs) (zeros j ++ d) ≡ zeros k ++ left_over c xs d
  left_over-zeros =
      number-same (left_over c (zeros k ++ xs) (zeros j ++ d)) (zeros k ++ left_over c xs d)
      (length-left_over c (zeros k ++ xs) (zeros j ++ d) ∙ length-zeros-append k xs ∙ sym (length-zeros-append k (left_over c xs d) ∙ ap (λ (n : ℕ). k + n) (length-left_over c xs d)))
      (left_over-is c (zeros k ++ xs) (zeros j ++ d) h' ∙ ap₂ (λ (m n : ℕ). bit c * (m % n)) (number-zeros-append k xs) (number-zeros-append j d) ∙ sym (number-zeros-append k (left_over c xs d) ∙ left_over-is c xs d h))
