-- When one list of bits is below another, and when two differ.
use Rattle.std.proofs.Common.{◌≡◌, ℕ, ◌-◌, ◌^◌, ◌<◌, ◌≤◌, Bool, true, false, List, [], ◌∷◌, length, refl, sym, ap, ◌∙◌, arith, ltb, lt-ltb, le-ltb, ltb-true, ltb-false, length-append}
use Rattle.std.proofs.lemmas.List.{length-replicate}
use Rattle.prv_bits.specs.Gates.{xor}
use Rattle.prv_bits.specs.Numbers.{bit, number, zeros, pairwise}
use Rattle.prv_bits.specs.Orders.{below, differ, flag_bits}
use Rattle.prv_bits.proofs.NumberLaws.{number-below, number-append, number-zeros, any_from-or}

decided : (t : Bool) (a b c d : ℕ) → ltb a b ≡ t → (a < b → c < d) → (b ≤ a → d ≤ c) → t ≡ ltb c d
decided true a b c d e f g = sym (lt-ltb c d (f (ltb-true a b e)))
decided false a b c d e f g = sym (le-ltb c d (g (ltb-false a b e)))

-- two tests that hold together
pub same-order : (a b c d : ℕ) → (a < b → c < d) → (b ≤ a → d ≤ c) → ltb a b ≡ ltb c d
same-order a b c d f g = decided (ltb a b) a b c d refl f g

pub below-is : (xs ys : List Bool) → length xs ≡ length ys → below xs ys ≡ ltb (number xs) (number ys)
below-is [] [] h = refl
below-is [] (y ∷ ys) h = cc
below-is (x ∷ xs) [] h = cc
below-is (true ∷ xs) (true ∷ ys) h =
    let k : length xs ≡ length ys = omega arith in
    let p = ap (λ (n : ℕ). 2 ^ n) k in
    below-is xs ys k ∙ same-order _ _ _ _ (λ e. omega arith) (λ e. omega arith)
below-is (false ∷ xs) (false ∷ ys) h =
    below-is xs ys (omega arith) ∙ same-order _ _ _ _ (λ e. omega arith) (λ e. omega arith)
below-is (true ∷ xs) (false ∷ ys) h =
    let p : 2 ^ length xs ≡ 2 ^ length ys = ap (λ (n : ℕ). 2 ^ n) (omega arith) in
    sym (le-ltb _ _ (omega (arith, number-below ys)))
below-is (false ∷ xs) (true ∷ ys) h =
    let p : 2 ^ length xs ≡ 2 ^ length ys = ap (λ (n : ℕ). 2 ^ n) (omega arith) in
    sym (lt-ltb _ _ (omega (arith, number-below xs)))

pub differ_itself : (bs : List Bool) → differ bs bs ≡ false
differ_itself [] = refl
differ_itself (true ∷ bs) = differ_itself bs
differ_itself (false ∷ bs) = differ_itself bs

pub differ-false : (xs ys : List Bool) → length xs ≡ length ys → differ xs ys ≡ false → xs ≡ ys
differ-false [] [] h e = refl
differ-false [] (y ∷ ys) h e = cc
differ-false (x ∷ xs) [] h e = cc
differ-false (true ∷ xs) (true ∷ ys) h e = ap (λ (t : List Bool). true ∷ t) (differ-false xs ys (omega arith) e)
differ-false (false ∷ xs) (false ∷ ys) h e = ap (λ (t : List Bool). false ∷ t) (differ-false xs ys (omega arith) e)
differ-false (true ∷ xs) (false ∷ ys) h e = let k = sym (any_from-or true (pairwise xor xs ys)) ∙ e in cc
differ-false (false ∷ xs) (true ∷ ys) h e = let k = sym (any_from-or true (pairwise xor xs ys)) ∙ e in cc

-- a flag's bits
pub length-flag_bits : (n : ℕ) (b : Bool) → 0 < n → length (flag_bits n b) ≡ n
length-flag_bits n b h = length-append (zeros (n - 1)) (b ∷ []) ∙ rw length-replicate (omega arith)

pub number-flag_bits : (n : ℕ) (b : Bool) → number (flag_bits n b) ≡ bit b
number-flag_bits n b = number-append (zeros (n - 1)) (b ∷ []) ∙ omega (arith, number-zeros (n - 1))
