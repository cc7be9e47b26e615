-- What a gate at each place is worth.
use Rattle.std.proofs.Common.{◌≡◌, ℕ, ◌+◌, ◌*◌, ◌^◌, ◌<◌, Bool, true, false, ◌&&◌, ◌||◌, List, [], ◌∷◌, length, refl, sym, ap, ap₂, ◌∙◌, arith, bit_and, bit_or, bit_xor}
use Rattle.std.proofs.lemmas.Nat.{and_block, or_block, xor_block}
use Rattle.prv_bits.specs.Gates.{xor}
use Rattle.prv_bits.specs.Numbers.{bit, number, pairwise}
use Rattle.prv_bits.proofs.NumberLaws.{number-below, length-pairwise}

-- an operation on numbers that works block by block is its gate at each place
blocks :
    (gate : Bool → Bool → Bool) (op : ℕ → ℕ → ℕ) →
    op 0 0 ≡ 0 →
    ((a b : Bool) → op (bit a) (bit b) ≡ bit (gate a b)) →
    ((k a b r s : ℕ) → r < 2 ^ k → s < 2 ^ k → op (a * 2 ^ k + r) (b * 2 ^ k + s) ≡ op a b * 2 ^ k + op r s) →
    (xs ys : List Bool) → length xs ≡ length ys → number (pairwise gate xs ys) ≡ op (number xs) (number ys)
blocks gate op none one more [] [] h = sym none
blocks gate op none one more [] (y ∷ ys) h = cc
blocks gate op none one more (x ∷ xs) [] h = cc
blocks gate op none one more (x ∷ xs) (y ∷ ys) h =
    let k : length xs ≡ length ys = omega arith in
    let p : 2 ^ length xs ≡ 2 ^ length ys = ap (λ (n : ℕ). 2 ^ n) k in
    let block = more (length xs) (bit x) (bit y) (number xs) (number ys) (number-below xs) (omega (arith, number-below ys)) in
    ap₂ (λ (n m : ℕ). bit (gate x y) * 2 ^ n + m) (length-pairwise gate xs ys k) (blocks gate op none one more xs ys k)
    ∙ ap (λ (m : ℕ). m * 2 ^ length xs + op (number xs) (number ys)) (sym (one x y))
    ∙ sym block
    ∙ ap (λ (m : ℕ). op (bit x * 2 ^ length xs + number xs) (bit y * m + number ys)) p

and-bit : (a b : Bool) → bit_and (bit a) (bit b) ≡ bit (a && b)
and-bit true true = refl
and-bit true false = refl
and-bit false true = refl
and-bit false false = refl

or-bit : (a b : Bool) → bit_or (bit a) (bit b) ≡ bit (a || b)
or-bit true true = refl
or-bit true false = refl
or-bit false true = refl
or-bit false false = refl

xor-bit : (a b : Bool) → bit_xor (bit a) (bit b) ≡ bit (xor a b)
xor-bit true true = refl
xor-bit true false = refl
xor-bit false true = refl
xor-bit false false = refl

pub and-is : (xs ys : List Bool) → length xs ≡ length ys → number (pairwise (λ a b. a && b) xs ys) ≡ bit_and (number xs) (number ys)
and-is = blocks (λ a b. a && b) bit_and refl and-bit and_block

pub or-is : (xs ys : List Bool) → length xs ≡ length ys → number (pairwise (λ a b. a || b) xs ys) ≡ bit_or (number xs) (number ys)
or-is = blocks (λ a b. a || b) bit_or refl or-bit or_block

pub xor-is : (xs ys : List Bool) → length xs ≡ length ys → number (pairwise xor xs ys) ≡ bit_xor (number xs) (number ys)
xor-is = blocks xor bit_xor refl xor-bit xor_block
