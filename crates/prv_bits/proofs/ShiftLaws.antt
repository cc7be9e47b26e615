-- What shifts of lists of bits are worth.
use Rattle.std.proofs.Common.{◌≡◌, ℕ, ◌+◌, ◌*◌, ◌/◌, ◌%◌, ◌^◌, Bool, true, false, not, List, [], ◌∷◌, ◌++◌, length, drop, refl, sym, ap, ap₂, ◌∙◌, arith, length-append, length-drop, pow-add, mod-eq_of_lt, mul_assoc, div-one}
use Rattle.std.proofs.lemmas.List.{length-replicate}
use Rattle.std.proofs.lemmas.Nat.{mul-mod_first, shr-shr}
use Rattle.prv_bits.specs.Gates.{mux}
use Rattle.prv_bits.specs.Numbers.{number, zeros, flip, choose}
use Rattle.prv_bits.specs.Places.{raised, lowered}
use Rattle.prv_bits.specs.Shifts.{shift_up, shift_down}
use Rattle.prv_bits.proofs.PlaceLaws.{length-raised, length-lowered, map-lowered}
use Rattle.prv_bits.proofs.NumberLaws.{number-below, number-append, number-zeros, number-drop, number-take, length-pairwise, choose-true, choose-false}

-- one stage
pub raised-is : (k : ℕ) (bs : List Bool) → number (raised false k bs) ≡ (number bs * 2 ^ k) % 2 ^ length bs
raised-is k bs =
    let whole : number (bs ++ zeros k) ≡ number bs * 2 ^ k =
    number-append bs (zeros k) ∙ omega (arith, number-zeros k, ap (λ (n : ℕ). number bs * 2 ^ n) (length-replicate k false)) in
    number-drop k (bs ++ zeros k) ∙ ap₂ (λ (m n : ℕ). m % 2 ^ n) whole (length-raised false k bs)

pub lowered-is : (k : ℕ) (bs : List Bool) → number (lowered false k bs) ≡ number bs / 2 ^ k
lowered-is k bs =
    let whole : number (zeros k ++ bs) ≡ number bs = number-append (zeros k) bs ∙ omega (arith, ap (λ (n : ℕ). n * 2 ^ length bs) (number-zeros k)) in
    let width : length (drop (length bs) (zeros k ++ bs)) ≡ k = length-drop (length bs) (zeros k ++ bs) ∙ omega (arith, length-append (zeros k) bs, length-replicate k false) in
    number-take (length bs) (zeros k ++ bs) ∙ ap₂ (λ (m n : ℕ). m / 2 ^ n) whole width

-- all stages
pub length-shift_up : (amount bs : List Bool) → length (shift_up amount bs) ≡ length bs
length-shift_up [] bs = refl
length-shift_up (k ∷ amount) bs =
    let moved = shift_up amount bs in
    length-pairwise (mux k) (raised false (2 ^ length amount) moved) moved (length-raised false (2 ^ length amount) moved)
    ∙ length-raised false (2 ^ length amount) moved ∙ length-shift_up amount bs

further : (n a s p : ℕ) → (((n * 2 ^ a) % p) * 2 ^ s) % p ≡ (n * 2 ^ (1 * s + a)) % p
further n a s p =
    mul-mod_first (n * 2 ^ a) (2 ^ s) p
    ∙ ap (λ (m : ℕ). m % p) (mul_assoc n (2 ^ a) (2 ^ s) ∙ ap (λ (m : ℕ). n * m) (sym (pow-add 2 a s)) ∙ ap (λ (m : ℕ). n * 2 ^ m) (omega arith))

pub shift_up-is : (amount bs : List Bool) → number (shift_up amount bs) ≡ (number bs * 2 ^ number amount) % 2 ^ length bs
shift_up-is [] bs = sym (ap (λ (m : ℕ). m % 2 ^ length bs) (omega arith) ∙ mod-eq_of_lt (number-below bs))
shift_up-is (true ∷ amount) bs =
    let moved = shift_up amount bs in
    let s = 2 ^ length amount in
    ap number (choose-true (raised false s moved) moved (length-raised false s moved)) ∙ raised-is s moved
    ∙ ap₂ (λ (m n : ℕ). (m * 2 ^ s) % 2 ^ n) (shift_up-is amount bs) (length-shift_up amount bs) ∙ further (number bs) (number amount) s (2 ^ length bs)
shift_up-is (false ∷ amount) bs =
    let moved = shift_up amount bs in
    let s = 2 ^ length amount in
    ap number (choose-false (raised false s moved) moved (length-raised false s moved)) ∙ shift_up-is amount bs
    ∙ ap (λ (m : ℕ). (number bs * 2 ^ m) % 2 ^ length bs) (omega arith)

pub length-shift_down : (s : Bool) (amount bs : List Bool) → length (shift_down s amount bs) ≡ length bs
length-shift_down s [] bs = refl
length-shift_down s (k ∷ amount) bs =
    let moved = shift_down s amount bs in
    length-pairwise (mux k) (lowered s (2 ^ length amount) moved) moved (length-lowered s (2 ^ length amount) moved)
    ∙ length-lowered s (2 ^ length amount) moved ∙ length-shift_down s amount bs

pub shift_down-is : (amount bs : List Bool) → number (shift_down false amount bs) ≡ number bs / 2 ^ number amount
shift_down-is [] bs = sym (div-one (number bs))
shift_down-is (true ∷ amount) bs =
    let moved = shift_down false amount bs in
    let s = 2 ^ length amount in
    ap number (choose-true (lowered false s moved) moved (length-lowered false s moved)) ∙ lowered-is s moved
    ∙ ap (λ (m : ℕ). m / 2 ^ s) (shift_down-is amount bs) ∙ shr-shr (number bs) (number amount) s ∙ ap (λ (m : ℕ). number bs / 2 ^ m) (omega arith)
shift_down-is (false ∷ amount) bs =
    let moved = shift_down false amount bs in
    let s = 2 ^ length amount in
    ap number (choose-false (lowered false s moved) moved (length-lowered false s moved)) ∙ shift_down-is amount bs
    ∙ ap (λ (m : ℕ). number bs / 2 ^ m) (omega arith)

-- copies of a set sign are zeros the other way
flip-choose : (c : Bool) (xs ys : List Bool) → flip (choose c xs ys) ≡ choose c (flip xs) (flip ys)
flip-choose c [] ys = refl
flip-choose c (x ∷ xs) [] = refl
flip-choose true (x ∷ xs) (y ∷ ys) = ap (λ (t : List Bool). not x ∷ t) (flip-choose true xs ys)
flip-choose false (x ∷ xs) (y ∷ ys) = ap (λ (t : List Bool). not y ∷ t) (flip-choose false xs ys)

pub flip-shift_down : (amount bs : List Bool) → flip (shift_down true amount bs) ≡ shift_down false amount (flip bs)
flip-shift_down [] bs = refl
flip-shift_down (k ∷ amount) bs =
    let moved = shift_down true amount bs in
    let s = 2 ^ length amount in
    let later : flip moved ≡ shift_down false amount (flip bs) = flip-shift_down amount bs in
    flip-choose k (lowered true s moved) moved
    ∙ ap (λ (t : List Bool). choose k t (flip moved)) (map-lowered not true s moved)
    ∙ ap (λ (t : List Bool). choose k (lowered false s t) t) later
