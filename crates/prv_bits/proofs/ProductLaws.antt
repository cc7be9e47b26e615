-- What products of lists of bits are worth.
use Rattle.std.proofs.Common.{◌≡◌, ℕ, ◌+◌, ◌*◌, ◌%◌, ◌^◌, ◌<◌, ◌≤◌, Bool, true, false, List, [], ◌∷◌, length, take, drop, sym, ap, ap₂, ◌∙◌, arith, length-append, length-drop, length-take, pow_pos, add-zero}
use Rattle.std.proofs.Math.Nat.{add-mod, mod-mod, zero-mod}
use Rattle.std.proofs.lemmas.List.{length-replicate}
use Rattle.std.proofs.lemmas.Nat.{div-mul-add, mod-mul-add, mod-pow-add}
use Rattle.prv_bits.specs.Numbers.{bit, number, gated}
use Rattle.prv_bits.specs.Sums.{add}
use Rattle.prv_bits.specs.Products.{add_row, product}
use Rattle.prv_bits.proofs.NumberLaws.{number-below, number-append, number-zeros, number-split, number-drop, number-gated, length-gated, number-same}
use Rattle.prv_bits.proofs.SumLaws.{length-add, add-is}

-- what is left of a number whose low k bits are l
pub upper-mod : (m h k l : ℕ) → l < 2 ^ k → (m % 2 ^ h) * 2 ^ k + l ≡ (m * 2 ^ k + l) % 2 ^ (h + k)
upper-mod m h k l below =
    let n = m * 2 ^ k + l in
    sym (mod-pow-add n h k ∙ ap₂ (λ (x y : ℕ). (x % 2 ^ h) * 2 ^ k + y) (div-mul-add m (2 ^ k) l below) (mod-mul-add m (2 ^ k) l below))

pub length-add_row : (row bs : List Bool) → length row ≤ length bs → length (add_row row bs) ≡ length bs
length-add_row row bs h =
    let w : length row ≡ length (take (length row) bs) = omega (arith, length-take (length row) bs) in
    length-append (add false row (take (length row) bs)) (drop (length row) bs)
    ∙ omega (arith, length-add false row (take (length row) bs) w, length-drop (length row) bs)

pub number-add_row : (k : ℕ) (row bs : List Bool) → length row + k ≡ length bs → number (add_row row bs) ≡ (number row * 2 ^ k + number bs) % 2 ^ length bs
number-add_row k row bs h =
    let top = take (length row) bs in
    let rest = drop (length row) bs in
    let w : length row ≡ length top = omega (arith, length-take (length row) bs) in
    let e : length rest ≡ k = omega (arith, length-drop (length row) bs) in
    let p : 2 ^ length rest ≡ 2 ^ k = ap (λ (n : ℕ). 2 ^ n) e in
    let m = number row + number top + 0 in
    let whole : number (add_row row bs) ≡ (m % 2 ^ length row) * 2 ^ k + number rest =
    number-append (add false row top) rest ∙ ap₂ (λ (x y : ℕ). x * y + number rest) (add-is false row top w) p in
    let sum : m * 2 ^ k + number rest ≡ number row * 2 ^ k + number bs =
    omega (arith, number-split (length row) bs, ap (λ (n : ℕ). number top * n) p) in
    whole ∙ upper-mod m (length row) k (number rest) (omega (arith, number-below rest)) ∙ ap₂ (λ (x y : ℕ). x % 2 ^ y) sum h

pub length-product : (xs ys : List Bool) → length ys ≤ length xs → length (product xs ys) ≡ length xs
length-product xs [] h = length-replicate (length xs) false
length-product xs (y ∷ ys) h =
    let row = gated y (drop (length ys) xs) in
    let e : length (product xs ys) ≡ length xs = length-product xs ys (omega arith) in
    length-add_row row (product xs ys) (omega (arith, length-gated y (drop (length ys) xs), length-drop (length ys) xs)) ∙ e

-- a row and what was summed before it
one-row : (y : Bool) (a b p k h : ℕ) → p ≡ 2 ^ (h + k) → (bit y * (a % 2 ^ h) * 2 ^ k + (a * b) % p) % p ≡ (a * (bit y * 2 ^ k + b)) % p
one-row false a b p k h e =
    ap (λ (n : ℕ). n % p) (omega arith) ∙ mod-mod (a * b) p ∙ ap (λ (n : ℕ). n % p) (omega arith)
one-row true a b p k h e =
    let row : 1 * (a % 2 ^ h) * 2 ^ k ≡ (a * 2 ^ k) % p =
    omega (arith, upper-mod a h k 0 (pow_pos k) ∙ ap₂ (λ (x y : ℕ). x % y) (add-zero (a * 2 ^ k)) (sym e)) in
    ap (λ (n : ℕ). (n + (a * b) % p) % p) row ∙ sym (add-mod (a * 2 ^ k) (a * b) p) ∙ ap (λ (n : ℕ). n % p) (omega arith)

pub product-is : (xs ys : List Bool) → length ys ≤ length xs → number (product xs ys) ≡ (number xs * number ys) % 2 ^ length xs
product-is xs [] h = number-zeros (length xs) ∙ sym (ap (λ (n : ℕ). n % 2 ^ length xs) (omega arith) ∙ zero-mod (2 ^ length xs))
product-is xs (y ∷ ys) h =
    let k = length ys in
    let low = drop k xs in
    let row = gated y low in
    let before = product xs ys in
    let e : length before ≡ length xs = length-product xs ys (omega arith) in
    let r : length low + k ≡ length xs = omega (arith, length-drop k xs) in
    let w : length row + k ≡ length before = omega (arith, length-gated y low) in
    number-add_row k row before w
    ∙ ap (λ (n : ℕ). (number row * 2 ^ k + number before) % 2 ^ n) e
    ∙ ap₂ (λ (m n : ℕ). (m * 2 ^ k + n) % 2 ^ length xs) (number-gated y low ∙ ap (λ (n : ℕ). bit y * n) (number-drop k xs)) (product-is xs ys (omega arith))
    ∙ one-row y (number xs) (number ys) (2 ^ length xs) k (length low) (ap (λ (n : ℕ). 2 ^ n) (sym r))

-- a row whose bit isn't set adds nothing
pub product-skip : (xs ys : List Bool) → length ys < length xs → product xs (false ∷ ys) ≡ product xs ys
product-skip xs ys h =
    number-same (product xs (false ∷ ys)) (product xs ys) (length-product xs (false ∷ ys) h ∙ sym (length-product xs ys (omega arith)))
    (product-is xs (false ∷ ys) h ∙ ap (λ (n : ℕ). (number xs * n) % 2 ^ length xs) (omega arith) ∙ sym (product-is xs ys (omega arith)))
