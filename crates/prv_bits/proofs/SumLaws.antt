-- What sums and negatives of lists of bits are worth.
use Rattle.std.proofs.Common.{◌≡◌, ℕ, suc, ◌+◌, ◌-◌, ◌*◌, ◌%◌, ◌^◌, ◌<◌, Bool, true, false, ◌&&◌, List, [], ◌∷◌, length, map, refl, sym, ap, ◌∙◌, arith, pow-suc, leb, le-leb}
use borrow.Author.Tests.{lt-leb}
use Rattle.std.proofs.lemmas.List.{length-map}
use Rattle.std.proofs.lemmas.Nat.{mod-mul-add}
use Rattle.prv_bits.specs.Gates.{xor, parity, majority}
use Rattle.prv_bits.specs.Numbers.{bit, number, flip}
use Rattle.prv_bits.specs.Sums.{carry, add, subtract, reaches, ripple, increment, negate_if}
use Rattle.prv_bits.proofs.NumberLaws.{number-below, number-flip, length-flip, number-same}

full-adder : (a b c : Bool) → bit a + bit b + bit c ≡ bit (majority a b c) + (bit (majority a b c) + bit (parity a b c))
full-adder true true true = refl
full-adder true true false = refl
full-adder true false true = refl
full-adder true false false = refl
full-adder false true true = refl
full-adder false true false = refl
full-adder false false true = refl
full-adder false false false = refl

pub length-add : (c : Bool) (xs ys : List Bool) → length xs ≡ length ys → length (add c xs ys) ≡ length xs
length-add c [] ys h = refl
length-add c (x ∷ xs) [] h = cc
length-add c (x ∷ xs) (y ∷ ys) h = ap suc (length-add c xs ys (omega arith))

scale : (a b c m s p : ℕ) → a + b + c ≡ m + (m + s) → a * p + b * p + c * p ≡ m * (p * 2) + s * p
scale a b c m s p e = omega (arith, ap (λ (n : ℕ). n * p) e)

-- the sum with its carry is the sum of the numbers
pub number-add : (c : Bool) (xs ys : List Bool) → length xs ≡ length ys → bit (carry c xs ys) * 2 ^ length xs + number (add c xs ys) ≡ number xs + number ys + bit c
number-add c [] [] h = omega arith
number-add c [] (y ∷ ys) h = cc
number-add c (x ∷ xs) [] h = cc
number-add c (x ∷ xs) (y ∷ ys) h =
    let k : length xs ≡ length ys = omega arith in
    let m = majority x y (carry c xs ys) in
    let s = parity x y (carry c xs ys) in
    let top = scale (bit x) (bit y) (bit (carry c xs ys)) (bit m) (bit s) (2 ^ length xs) (full-adder x y (carry c xs ys)) in
    omega (arith, top, number-add c xs ys k, ap (λ (n : ℕ). bit m * n) (pow-suc 2 (length xs)), ap (λ (n : ℕ). bit s * 2 ^ n) (length-add c xs ys k), ap (λ (n : ℕ). bit y * 2 ^ n) k)

-- what is left of a number in n bits, where it passes them by a bit at most
pub leftover : (c : Bool) (s p t : ℕ) → bit c * p + s ≡ t → s < p → s ≡ t % p
leftover c s p t e h = sym (ap (λ (n : ℕ). n % p) (sym e) ∙ mod-mul-add (bit c) p s h)

pub below-add : (c : Bool) (xs ys : List Bool) → length xs ≡ length ys → number (add c xs ys) < 2 ^ length xs
below-add c xs ys h = omega (arith, number-below (add c xs ys), ap (λ (n : ℕ). 2 ^ n) (length-add c xs ys h))

pub add-is : (c : Bool) (xs ys : List Bool) → length xs ≡ length ys → number (add c xs ys) ≡ (number xs + number ys + bit c) % 2 ^ length xs
add-is c xs ys h = leftover (carry c xs ys) (number (add c xs ys)) (2 ^ length xs) (number xs + number ys + bit c) (number-add c xs ys h) (below-add c xs ys h)

pub length-subtract : (xs ys : List Bool) → length xs ≡ length ys → length (subtract xs ys) ≡ length xs
length-subtract xs ys h = length-add true xs (flip ys) (h ∙ sym (length-flip ys))

-- a difference and its carry
pub number-subtract : (xs ys : List Bool) → length xs ≡ length ys → bit (reaches xs ys) * 2 ^ length xs + (number (subtract xs ys) + number ys) ≡ number xs + 2 ^ length xs
number-subtract xs ys h =
    omega (arith, number-add true xs (flip ys) (h ∙ sym (length-flip ys)), number-flip ys, ap (λ (n : ℕ). 2 ^ n) h)

pub subtract-is : (xs ys : List Bool) → length xs ≡ length ys → number (subtract xs ys) ≡ (number xs + (2 ^ length xs - number ys)) % 2 ^ length xs
subtract-is xs ys h =
    add-is true xs (flip ys) (h ∙ sym (length-flip ys))
    ∙ ap (λ (n : ℕ). n % 2 ^ length xs) (omega (arith, number-flip ys, ap (λ (n : ℕ). 2 ^ n) h))

decided : (c : Bool) (p s x y : ℕ) → bit c * p + (s + y) ≡ x + p → s < p → c ≡ leb y x
decided true p s x y e h = sym (le-leb y x (omega arith))
decided false p s x y e h = sym (lt-leb y x (omega arith))

pub reaches-is : (xs ys : List Bool) → length xs ≡ length ys → reaches xs ys ≡ leb (number ys) (number xs)
reaches-is xs ys h =
    decided (reaches xs ys) (2 ^ length xs) (number (subtract xs ys)) (number xs) (number ys) (number-subtract xs ys h)
    (below-add true xs (flip ys) (h ∙ sym (length-flip ys)))

-- the difference where there is one
pub exact-subtract : (xs ys : List Bool) → length xs ≡ length ys → reaches xs ys ≡ true → number (subtract xs ys) + number ys ≡ number xs
exact-subtract xs ys h e = omega (arith, number-subtract xs ys h, ap (λ (c : Bool). bit c * 2 ^ length xs) e)

-- negatives
half-adder : (b c : Bool) → bit b + bit c ≡ bit (b && c) + (bit (b && c) + bit (xor b c))
half-adder true true = refl
half-adder true false = refl
half-adder false true = refl
half-adder false false = refl

pub length-increment : (c : Bool) (bs : List Bool) → length (increment c bs) ≡ length bs
length-increment c [] = refl
length-increment c (b ∷ bs) = ap suc (length-increment c bs)

scale_half : (b c m s p : ℕ) → b + c ≡ m + (m + s) → b * p + c * p ≡ m * (p * 2) + s * p
scale_half b c m s p e = omega (arith, ap (λ (n : ℕ). n * p) e)

number-increment : (c : Bool) (bs : List Bool) → bit (ripple c bs) * 2 ^ length bs + number (increment c bs) ≡ number bs + bit c
number-increment c [] = omega arith
number-increment c (b ∷ bs) =
    let m = b && ripple c bs in
    let s = xor b (ripple c bs) in
    let top = scale_half (bit b) (bit (ripple c bs)) (bit m) (bit s) (2 ^ length bs) (half-adder b (ripple c bs)) in
    omega (arith, top, number-increment c bs, ap (λ (n : ℕ). bit m * n) (pow-suc 2 (length bs)), ap (λ (n : ℕ). bit s * 2 ^ n) (length-increment c bs))

pub length-negate_if : (c : Bool) (bs : List Bool) → length (negate_if c bs) ≡ length bs
length-negate_if c bs = length-increment c (map (xor c) bs) ∙ length-map bs (xor c)

stays : (c : Bool) (p s n : ℕ) → bit c * p + s ≡ n + 0 → n < p → s ≡ n
stays true p s n e h = absurd (omega arith)
stays false p s n e h = omega arith

same-bits : (bs : List Bool) → map (xor false) bs ≡ bs
same-bits [] = refl
same-bits (b ∷ bs) = ap (λ (t : List Bool). b ∷ t) (same-bits bs)

pub number-kept : (bs : List Bool) → number (negate_if false bs) ≡ number bs
number-kept bs =
    ap (λ (t : List Bool). number (increment false t)) (same-bits bs)
    ∙ stays (ripple false bs) (2 ^ length bs) (number (increment false bs)) (number bs) (number-increment false bs) (number-below bs)

pub kept : (bs : List Bool) → negate_if false bs ≡ bs
kept bs = number-same (negate_if false bs) bs (length-negate_if false bs) (number-kept bs)

pub number-negated : (bs : List Bool) → number (negate_if true bs) ≡ (2 ^ length bs - number bs) % 2 ^ length bs
number-negated bs =
    leftover (ripple true (flip bs)) (number (negate_if true bs)) (2 ^ length bs) (2 ^ length bs - number bs)
    (omega (arith, number-increment true (flip bs), number-flip bs, ap (λ (n : ℕ). bit (ripple true (flip bs)) * 2 ^ n) (length-flip bs)))
    (omega (arith, number-below (negate_if true bs), ap (λ (n : ℕ). 2 ^ n) (length-negate_if true bs)))
