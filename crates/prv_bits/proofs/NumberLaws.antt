-- What the parts of a list of bits count.
use Rattle.std.proofs.Common.{◌≡◌, ℕ, zero, suc, ◌+◌, ◌-◌, ◌*◌, ◌/◌, ◌%◌, ◌^◌, ◌<◌, Bool, true, false, ◌&&◌, ◌||◌, not, List, [], ◌∷◌, ◌++◌, length, take, drop, refl, sym, ap, ◌∙◌, arith, pow-suc, pow-add, pow_pos, length-append, take-append-drop, ap₂, lit<, one-add, mod-lt, ◌==◌}
use Rattle.std.proofs.lemmas.Bool.{false_from_ne_true}
use Rattle.std.proofs.lemmas.List.{length-map}
use Rattle.std.proofs.lemmas.Nat.{div-mul-add, mod-mul-add, mod-pow-add}
use Rattle.prv_bits.specs.Places.{padded}
use Rattle.prv_bits.specs.Numbers.{bit, number, zeros, flip, gated, pairwise, choose, any_from, any, digits}

pub number-below : (bs : List Bool) → number bs < 2 ^ length bs
number-below [] = omega arith
number-below (true ∷ bs) = omega (arith, number-below bs, pow-suc 2 (length bs))
number-below (false ∷ bs) = omega (arith, number-below bs, pow-suc 2 (length bs))

power-append : (xs ys : List Bool) → 2 ^ length (xs ++ ys) ≡ 2 ^ length xs * 2 ^ length ys
power-append xs ys = ap (λ (n : ℕ). 2 ^ n) (length-append xs ys) ∙ pow-add 2 (length xs) (length ys)

pub number-append : (xs ys : List Bool) → number (xs ++ ys) ≡ number xs * 2 ^ length ys + number ys
number-append [] ys = omega arith
number-append (true ∷ xs) ys = omega (arith, power-append xs ys, number-append xs ys)
number-append (false ∷ xs) ys = omega (arith, number-append xs ys)

pub number-zeros : (n : ℕ) → number (zeros n) ≡ 0
number-zeros zero = refl
number-zeros (suc n) = omega (arith, number-zeros n)

pub number-padded : (n : ℕ) (bs : List Bool) → number (padded false n bs) ≡ number bs
number-padded n bs = number-append (zeros (n - length bs)) bs ∙ rw number-zeros (omega arith)

pub length-flip : (bs : List Bool) → length (flip bs) ≡ length bs
length-flip bs = length-map bs not

pub number-flip : (bs : List Bool) → number bs + suc (number (flip bs)) ≡ 2 ^ length bs
number-flip [] = refl
number-flip (true ∷ bs) = omega (arith, number-flip bs, pow-suc 2 (length bs))
number-flip (false ∷ bs) = omega (arith, ap (λ (n : ℕ). 2 ^ n) (length-flip bs), number-flip bs, pow-suc 2 (length bs))

pub gated-true : (bs : List Bool) → gated true bs ≡ bs
gated-true [] = refl
gated-true (b ∷ bs) = ap (λ (xs : List Bool). b ∷ xs) (gated-true bs)

pub gated-false : (bs : List Bool) → gated false bs ≡ zeros (length bs)
gated-false [] = refl
gated-false (b ∷ bs) = ap (λ (xs : List Bool). false ∷ xs) (gated-false bs)

pub length-gated : (c : Bool) (bs : List Bool) → length (gated c bs) ≡ length bs
length-gated c bs = length-map bs (λ b. c && b)

pub number-gated : (c : Bool) (bs : List Bool) → number (gated c bs) ≡ bit c * number bs
number-gated true bs = rw gated-true (omega arith)
number-gated false bs = rw gated-false (rw number-zeros (omega arith))

pub length-pairwise : (gate : Bool → Bool → Bool) (xs ys : List Bool) → length xs ≡ length ys → length (pairwise gate xs ys) ≡ length xs
length-pairwise gate [] ys h = refl
length-pairwise gate (x ∷ xs) [] h = cc
length-pairwise gate (x ∷ xs) (y ∷ ys) h = ap suc (length-pairwise gate xs ys (omega arith))

pub choose-true : (xs ys : List Bool) → length xs ≡ length ys → choose true xs ys ≡ xs
choose-true [] ys h = refl
choose-true (x ∷ xs) [] h = cc
choose-true (x ∷ xs) (y ∷ ys) h = ap (λ (t : List Bool). x ∷ t) (choose-true xs ys (omega arith))

pub choose-false : (xs ys : List Bool) → length xs ≡ length ys → choose false xs ys ≡ ys
choose-false [] [] h = refl
choose-false [] (y ∷ ys) h = cc
choose-false (x ∷ xs) [] h = cc
choose-false (x ∷ xs) (y ∷ ys) h = ap (λ (t : List Bool). y ∷ t) (choose-false xs ys (omega arith))

-- bits in two parts
pub number-split : (k : ℕ) (bs : List Bool) → number bs ≡ number (take k bs) * 2 ^ length (drop k bs) + number (drop k bs)
number-split k bs = ap number (sym (take-append-drop k bs)) ∙ number-append (take k bs) (drop k bs)

pub number-drop : (k : ℕ) (bs : List Bool) → number (drop k bs) ≡ number bs % 2 ^ length (drop k bs)
number-drop k bs =
    sym (ap (λ (n : ℕ). n % 2 ^ length (drop k bs)) (number-split k bs) ∙ mod-mul-add (number (take k bs)) (2 ^ length (drop k bs)) (number (drop k bs)) (number-below (drop k bs)))

pub number-take : (k : ℕ) (bs : List Bool) → number (take k bs) ≡ number bs / 2 ^ length (drop k bs)
number-take k bs =
    sym (ap (λ (n : ℕ). n / 2 ^ length (drop k bs)) (number-split k bs) ∙ div-mul-add (number (take k bs)) (2 ^ length (drop k bs)) (number (drop k bs)) (number-below (drop k bs)))

-- a number tells the bits
pub number-same : (xs ys : List Bool) → length xs ≡ length ys → number xs ≡ number ys → xs ≡ ys
number-same [] [] h e = refl
number-same [] (y ∷ ys) h e = cc
number-same (x ∷ xs) [] h e = cc
number-same (true ∷ xs) (true ∷ ys) h e =
    let k : length xs ≡ length ys = omega arith in
    ap (λ (t : List Bool). true ∷ t) (number-same xs ys k (omega (arith, ap (λ (n : ℕ). 2 ^ n) k)))
number-same (false ∷ xs) (false ∷ ys) h e = ap (λ (t : List Bool). false ∷ t) (number-same xs ys (omega arith) (omega arith))
number-same (true ∷ xs) (false ∷ ys) h e =
    let k : length xs ≡ length ys = omega arith in
    absurd (omega (arith, ap (λ (n : ℕ). 2 ^ n) k, number-below ys))
number-same (false ∷ xs) (true ∷ ys) h e =
    let k : length xs ≡ length ys = omega arith in
    absurd (omega (arith, ap (λ (n : ℕ). 2 ^ n) k, number-below xs))

-- some bit is set where the number is not 0
pub any_from-or : (c : Bool) (bs : List Bool) → any_from c bs ≡ (c || any bs)
any_from-or true [] = refl
any_from-or false [] = refl
any_from-or true (b ∷ bs) = any_from-or true bs
any_from-or false (b ∷ bs) = refl

pub any-zero : (bs : List Bool) → any bs ≡ false → number bs ≡ 0
any-zero [] h = refl
any-zero (true ∷ bs) h = let k = sym (any_from-or true bs) ∙ h in cc
any-zero (false ∷ bs) h = omega (arith, any-zero bs h)

pub any-nonzero : (bs : List Bool) → any bs ≡ true → 0 < number bs
any-nonzero [] h = cc
any-nonzero (true ∷ bs) h = omega (arith, pow_pos (length bs))
any-nonzero (false ∷ bs) h = omega (arith, any-nonzero bs h)

pub zero-any : (bs : List Bool) → number bs ≡ 0 → any bs ≡ false
zero-any bs h = false_from_ne_true (any bs) (λ e. let k = any-nonzero bs e in omega arith)

-- the digits of a number
pub length-digits : (k n : ℕ) → length (digits k n) ≡ k
length-digits zero n = refl
length-digits (suc k) n = ap suc (length-digits k n)

bit-eqb : (n : ℕ) → n < 2 → bit (n == 1) ≡ n
bit-eqb zero h = refl
bit-eqb (suc zero) h = refl
bit-eqb (suc (suc n)) h = absurd (omega arith)

pub number-digits : (k n : ℕ) → number (digits k n) ≡ n % 2 ^ k
number-digits zero n = omega arith
number-digits (suc k) n =
    let top : bit (n / 2 ^ k % 2 == 1) * 2 ^ length (digits k n) ≡ (n / 2 ^ k % 2) * 2 ^ k =
    ap₂ (λ (x y : ℕ). x * 2 ^ y) (bit-eqb (n / 2 ^ k % 2) (mod-lt (n / 2 ^ k) (lit< tt))) (length-digits k n) in
    let parts : n % 2 ^ suc k ≡ (n / 2 ^ k % 2) * 2 ^ k + n % 2 ^ k = ap (λ (m : ℕ). n % 2 ^ m) (sym (one-add k)) ∙ mod-pow-add n 1 k in
    omega (arith, top, parts, number-digits k n)
