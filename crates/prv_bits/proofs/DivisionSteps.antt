-- What one step of a division decides and leaves.
use Rattle.std.proofs.Common.{◌≡◌, inl, inr, ℕ, zero, suc, ◌+◌, ◌-◌, ◌*◌, ◌^◌, ◌<◌, ◌≤◌, min, Bool, true, false, ◌&&◌, ◌||◌, not, List, length, take, refl, sym, ap, ap₂, ◌∙◌, arith, leb, le-leb, leb-true, leb-false, le_of_lt}
use borrow.Author.Tests.{lt-leb}
use Rattle.std.proofs.lemmas.Bool.{cases_lt, false_from_ne_true}
use Rattle.prv_bits.specs.Numbers.{bit, number, choose, any}
use Rattle.prv_bits.specs.Places.{low, high}
use Rattle.prv_bits.specs.Sums.{subtract, reaches}
use Rattle.prv_bits.specs.Quotients.{fits, reduce}
use Rattle.prv_bits.proofs.PlaceLaws.{length-low}
use Rattle.prv_bits.proofs.NumberLaws.{number-below, number-split, any-zero, any-nonzero, length-pairwise, choose-true, choose-false}
use Rattle.prv_bits.proofs.SumLaws.{length-subtract, reaches-is, exact-subtract, number-subtract}

split-low : (n : ℕ) (bs : List Bool) → number bs ≡ number (high n bs) * 2 ^ length (low n bs) + number (low n bs)
split-low n bs = number-split (length bs - n) bs

pub inside : (n : ℕ) (bs : List Bool) → any (high n bs) ≡ false → number (low n bs) ≡ number bs
inside n bs h = omega (arith, split-low n bs ∙ ap (λ (m : ℕ). m * 2 ^ length (low n bs) + number (low n bs)) (any-zero (high n bs) h))

-- no bit lies above as many as there are
pub none-high : (n : ℕ) (bs : List Bool) → length bs ≤ n → any (high n bs) ≡ false
none-high n bs h = let none : length bs - n ≡ 0 = omega arith in ap (λ (k : ℕ). any (take k bs)) none

at-least : (t p l n : ℕ) → 0 < t → n ≡ t * p + l → p ≤ n
at-least zero p l n h e = absurd (omega arith)
at-least (suc t) p l n h e = omega arith

-- a bit above the lowest n
pub outside : (n : ℕ) (bs : List Bool) → any (high n bs) ≡ true → (n < length bs) × (number bs ≡ number (high n bs) * 2 ^ n + number (low n bs)) × (2 ^ n ≤ number bs)
outside n bs h = elim (cases_lt n (length bs)) [
  | inl more ↦ let e : number bs ≡ number (high n bs) * 2 ^ n + number (low n bs) =
      split-low n bs ∙ ap (λ (k : ℕ). number (high n bs) * 2 ^ k + number (low n bs)) (length-low n bs ∙ omega arith) in
      (more, e, at-least (number (high n bs)) (2 ^ n) (number (low n bs)) (number bs) (any-nonzero (high n bs) h) e)
  | inr less ↦ let k = none-high n bs less in cc
]

pub length-step : (d r : List Bool) → length (low (length d) r) ≡ length (low (length r) d)
length-step d r = length-low (length d) r ∙ sym (length-low (length r) d ∙ omega arith)

fits-cases : (d r : List Bool) (t u : Bool) → any (high (length d) r) ≡ t → any (high (length r) d) ≡ u → (t || (not u && reaches (low (length d) r) (low (length r) d))) ≡ leb (number d) (number r)
fits-cases d r true u e f = sym (le-leb (number d) (number r) (let far = outside (length d) r e in omega (arith, number-below d, far.2)))
fits-cases d r false true e f = sym (lt-leb (number d) (number r) (let far = outside (length r) d f in omega (arith, number-below r, far.2)))
fits-cases d r false false e f =
    reaches-is (low (length d) r) (low (length r) d) (length-step d r) ∙ ap₂ leb (inside (length r) d f) (inside (length d) r e)

-- the divisor fits where it isn't above what is left
pub fits-is : (d r : List Bool) → fits d r ≡ leb (number d) (number r)
fits-is d r = fits-cases d r (any (high (length d) r)) (any (high (length r) d)) refl refl

pub length-reduce : (d r : List Bool) → length (reduce d r) ≡ min (length d) (length r)
length-reduce d r =
    let e = length-step d r in
    length-pairwise _ (subtract (low (length d) r) (low (length r) d)) (low (length d) r) (length-subtract (low (length d) r) (low (length r) d) e)
    ∙ length-subtract (low (length d) r) (low (length r) d) e ∙ length-low (length d) r

-- a bit above the lowest n makes the number pass n bits
pub none-above : (n : ℕ) (bs : List Bool) → number bs < 2 ^ n → any (high n bs) ≡ false
none-above n bs h = false_from_ne_true (any (high n bs)) (λ e. let far = outside n bs e in omega (arith, far.2))

once : (t p l n : ℕ) → n ≡ t * p + l → p ≤ n → n < p + p → l < p → n ≡ p + l
once zero p l n e h k b = absurd (omega arith)
once (suc zero) p l n e h k b = omega arith
once (suc (suc t)) p l n e h k b = absurd (omega arith)

settled : (c : Bool) (p s d l n : ℕ) → bit c * p + (s + d) ≡ l + p → n ≡ p + l → n < d + d → d < p → s + d ≡ n
settled true p s d l n e f h k = absurd (omega arith)
settled false p s d l n e f h k = omega arith

-- what is taken off r
lessened : (d r : List Bool) (t : Bool) → any (high (length d) r) ≡ t → number d ≤ number r → number r < number d + number d → number (subtract (low (length d) r) (low (length r) d)) + number d ≡ number r
lessened d r false e h k =
    let lows = length-step d r in
    let f = none-above (length r) d (omega (arith, number-below r)) in
    let now : number (low (length r) d) ≡ number d = inside (length r) d f in
    let rest : number (low (length d) r) ≡ number r = inside (length d) r e in
    let yes : reaches (low (length d) r) (low (length r) d) ≡ true = reaches-is _ _ lows ∙ le-leb _ _ (omega arith) in
    omega (arith, exact-subtract (low (length d) r) (low (length r) d) lows yes)
lessened d r true e h k =
    let far = outside (length d) r e in
    let f = none-high (length r) d (le_of_lt far.0) in
    let lr = low (length d) r in
    let ld = low (length r) d in
    let now : number ld ≡ number d = inside (length r) d f in
    let lows : length lr ≡ length ld = length-step d r in
    let w : length lr ≡ length d = length-low (length d) r ∙ omega arith in
    let p : 2 ^ length lr ≡ 2 ^ length d = ap (λ (n : ℕ). 2 ^ n) w in
    let passed : number r ≡ 2 ^ length d + number lr =
    once (number (high (length d) r)) (2 ^ length d) (number lr) (number r) far.1 far.2 (omega (arith, number-below d)) (omega (arith, number-below lr)) in
    let whole = number-subtract lr ld lows in
    let scaled = ap (λ (n : ℕ). bit (reaches lr ld) * n) p in
    settled (reaches lr ld) (2 ^ length d) (number (subtract lr ld)) (number d) (number lr) (number r) (omega arith) passed k (number-below d)

chosen : (d r : List Bool) (t : Bool) → fits d r ≡ t → number r < number d + number d → (number (choose t (subtract (low (length d) r) (low (length r) d)) (low (length d) r)) + bit t * number d ≡ number r) × (number (choose t (subtract (low (length d) r) (low (length r) d)) (low (length d) r)) < number d)
chosen d r true e h =
    let lows = length-step d r in
    let h' : number d ≤ number r = leb-true (number d) (number r) (sym (fits-is d r) ∙ e) in
    let less = lessened d r (any (high (length d) r)) refl h' h in
    let w = ap number (choose-true (subtract (low (length d) r) (low (length r) d)) (low (length d) r) (length-subtract _ _ lows)) in
    (omega arith, omega arith)
chosen d r false e h =
    let lows = length-step d r in
    let h' : number r < number d = leb-false (number d) (number r) (sym (fits-is d r) ∙ e) in
    let same = inside (length d) r (none-above (length d) r (omega (arith, number-below d))) in
    let w = ap number (choose-false (subtract (low (length d) r) (low (length r) d)) (low (length d) r) (length-subtract _ _ lows)) in
    (omega arith, omega arith)

-- what a step leaves: r less d where d fits, and less than d
pub reduce-is : (d r : List Bool) → number r < number d + number d → (number (reduce d r) + bit (fits d r) * number d ≡ number r) × (number (reduce d r) < number d)
reduce-is d r h = chosen d r (fits d r) refl h
