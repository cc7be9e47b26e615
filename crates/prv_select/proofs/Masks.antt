-- A number that has a bit for each needed variable.
use Rattle.std.proofs.Common.{◌≡◌, ℕ, zero, suc, ◌<◌, ◌-◌, ◌*◌, ◌^◌, ◌==◌, nat_eq, nat_lt, Bool, true, false, ◌&&◌, ◌||◌, not, List, [], ◌∷◌, refl, sym, ap, ◌∙◌, min, max, bit_and, bit_or, arith}
use Rattle.std.specs.Int.{w64, bit_at, bit_not}
use Rattle.std.specs.List.{list_any}
use Rattle.std.proofs.Math.Pow.{pow-lt}
use Rattle.std.proofs.lemmas.Nat.{and_comm, pow_pos}
use Rattle.std.proofs.lemmas.Nat.Bits.{bit_at_or, bit_at_and, bit_at_not, bit_at-zero, bit_at-lt, and_pow, same_from_bits}
use Rattle.std.proofs.lemmas.Bool.Decides.{nat_tests}
use Rattle.prv_model.specs.declared.expr.Expr.{Expr}
use Rattle.prv_dep.specs.Dependences.{vars}
use Rattle.prv_dep.specs.Tables.{bit, mask, has_bit}
use Rattle.prv_dep.proofs.MaskLaws.{mask-has, mask-one}
use Rattle.prv_select.specs.Choices.{with_vars, without, nothing}

-- the bits are the needed variables
abbrev pub AreNeeded : ℕ → (ℕ → Bool) → Type 0
AreNeeded n needed = (v : ℕ) → v < 64 → has_bit n v ≡ needed v

pub none-needed : AreNeeded 0 nothing
none-needed v low = ap (λ (n : ℕ). n == 1) (bit_at-zero v)

-- each variable has a bit
abbrev pub HaveBits : List ℕ → Type 0
HaveBits [] = Unit {0}
HaveBits (v ∷ vs) = (v < 64) × HaveBits vs

max-one : (a b : ℕ) → a < 2 → b < 2 → (max a b == 1) ≡ ((a == 1) || (b == 1))
max-one zero b low small = let same : max 0 b ≡ b = omega arith in ap (λ (n : ℕ). n == 1) same
max-one (suc zero) b low small = let same : max 1 b ≡ 1 = omega arith in ap (λ (n : ℕ). n == 1) same
max-one (suc (suc a)) b low small = absurd (omega arith)

min-less : (a b : ℕ) → a < 2 → b < 2 → (min a (1 - b) == 1) ≡ (not (b == 1) && (a == 1))
min-less a zero low small = let same : min a (1 - 0) ≡ a = omega arith in ap (λ (n : ℕ). n == 1) same
min-less a (suc zero) low small = let same : min a (1 - 1) ≡ 0 = omega arith in ap (λ (n : ℕ). n == 1) same
min-less a (suc (suc b)) low small = absurd (omega arith)

pub has-or : (a b v : ℕ) → has_bit (bit_or a b) v ≡ (has_bit a v || has_bit b v)
has-or a b v = ap (λ (n : ℕ). n == 1) (bit_at_or a b v) ∙ max-one _ _ (bit_at-lt a v) (bit_at-lt b v)

has-less : (a b v : ℕ) → b < 2 ^ 64 → v < 64 → has_bit (bit_and a (bit_not w64 b)) v ≡ (not (has_bit b v) && has_bit a v)
has-less a b v small low =
    ap (λ (n : ℕ). n == 1) (bit_at_and a (bit_not w64 b) v ∙ ap (λ (n : ℕ). min (bit_at a v) n) (bit_at_not w64 b v small low)) ∙ min-less _ _ (bit_at-lt a v) (bit_at-lt b v)

bit-small : (v : ℕ) → v < 64 → bit v < 2 ^ 64
bit-small v low = let is : nat_lt v 64 ≡ true = grind (arith, nat_tests) in rw is (pow-lt low)

or_false : (b : Bool) → (b || false) ≡ b
or_false true = refl
or_false false = refl

eq-swap : (u v : ℕ) → nat_eq u v ≡ nat_eq v u
eq-swap u v = grind (arith, nat_tests)

has-bit : (u v : ℕ) → v < 64 → has_bit (bit u) v ≡ nat_eq u v
has-bit u v low = ap (λ (n : ℕ). has_bit n v) (sym (mask-one u)) ∙ mask-has (u ∷ []) v low ∙ or_false (nat_eq v u) ∙ eq-swap v u

or_swap : (a b : Bool) → (a || b) ≡ (b || a)
or_swap true true = refl
or_swap true false = refl
or_swap false true = refl
or_swap false false = refl

-- what is needed before an expression is evaluated
pub needed-vars : (n : ℕ) (needed : ℕ → Bool) (e : Expr) → AreNeeded n needed → AreNeeded (bit_or n (mask (vars e))) (with_vars e needed)
needed-vars n needed e h v low = has-or n (mask (vars e)) v ∙ (λ i. h v low i || mask-has (vars e) v low i)

-- what is needed before a variable is set
pub needed-set : (n : ℕ) (needed : ℕ → Bool) (var : ℕ) (e : Expr) → var < 64 → AreNeeded n needed → AreNeeded (bit_or (bit_and n (bit_not w64 (bit var))) (mask (vars e))) (with_vars e (without var needed))
needed-set n needed var e small h =
    needed-vars (bit_and n (bit_not w64 (bit var))) (without var needed) e
    (λ v low. has-less n (bit var) v (bit-small var small) low ∙ (λ i. not (has-bit var v low i) && h v low i))

-- whether a set of variables has a needed one
or-left-zero : (a b : ℕ) → bit_or a b ≡ 0 → a ≡ 0
or-left-zero a b e = same_from_bits a 0 (λ i.
    let both : max (bit_at a i) (bit_at b i) ≡ 0 = sym (bit_at_or a b i) ∙ ap (λ (n : ℕ). bit_at n i) e ∙ bit_at-zero i in
    let none : bit_at a i ≡ 0 = omega arith in none ∙ sym (bit_at-zero i))

or-zeros : (b : ℕ) → bit_or 0 b ≡ b
or-zeros b = same_from_bits _ _ (λ i. bit_at_or 0 b i ∙ ap (λ (n : ℕ). max n (bit_at b i)) (bit_at-zero i) ∙ omega arith)

or-some : (a b : ℕ) → not (nat_eq (bit_or a b) 0) ≡ (not (nat_eq a 0) || not (nat_eq b 0))
or-some a b = by (nat_eq a 0) refl
  where
    by : (z : Bool) → nat_eq a 0 ≡ z → not (nat_eq (bit_or a b) 0) ≡ (not (nat_eq a 0) || not (nat_eq b 0))
    by true e =
        let none : a ≡ 0 = grind (arith, nat_tests) in
        rw none (ap (λ (n : ℕ). not (nat_eq n 0)) (or-zeros b))
    by false e = by_or (nat_eq (bit_or a b) 0) refl
      where
        by_or : (y : Bool) → nat_eq (bit_or a b) 0 ≡ y → not (nat_eq (bit_or a b) 0) ≡ (not (nat_eq a 0) || not (nat_eq b 0))
        by_or true f =
            let whole : bit_or a b ≡ 0 = grind (arith, nat_tests) in
            let none : a ≡ 0 = or-left-zero a b whole in
            absurd (grind (arith, nat_tests))
        by_or false f = rw (e, f) refl

and-or : (a b n : ℕ) → bit_and (bit_or a b) n ≡ bit_or (bit_and a n) (bit_and b n)
and-or a b n = same_from_bits _ _ (λ i.
    let left : bit_at (bit_and (bit_or a b) n) i ≡ min (max (bit_at a i) (bit_at b i)) (bit_at n i) = bit_at_and (bit_or a b) n i ∙ ap (λ (k : ℕ). min k (bit_at n i)) (bit_at_or a b i) in
    let right : bit_at (bit_or (bit_and a n) (bit_and b n)) i ≡ max (min (bit_at a i) (bit_at n i)) (min (bit_at b i) (bit_at n i)) =
    bit_at_or (bit_and a n) (bit_and b n) i ∙ (λ j. max (bit_at_and a n i j) (bit_at_and b n i j)) in
    left ∙ omega arith ∙ sym right)

pow-some : (b k : ℕ) → b < 2 → not (nat_eq (b * 2 ^ k) 0) ≡ (b == 1)
pow-some zero k low = let none : 0 * 2 ^ k ≡ 0 = omega arith in ap (λ (n : ℕ). not (nat_eq n 0)) none
pow-some (suc zero) k low =
    let one : 1 * 2 ^ k ≡ 2 ^ k = omega arith in
    let above : 0 < 2 ^ k = pow_pos k in
    let some : nat_eq (2 ^ k) 0 ≡ false = grind (arith, nat_tests) in
    ap (λ (n : ℕ). not (nat_eq n 0)) one ∙ ap (λ (z : Bool). not z) some
pow-some (suc (suc b)) k low = absurd (omega arith)

one-some : (v n : ℕ) → v < 64 → not (nat_eq (bit_and (bit v) n) 0) ≡ has_bit n v
one-some v n low =
    let is : nat_lt v 64 ≡ true = grind (arith, nat_tests) in
    let same : bit v ≡ 2 ^ v = rw is refl in
    ap (λ (k : ℕ). not (nat_eq k 0)) (ap (λ (k : ℕ). bit_and k n) same ∙ and_comm (2 ^ v) n ∙ and_pow n v) ∙ pow-some (bit_at n v) v (bit_at-lt n v)

and-zero : (n : ℕ) → bit_and 0 n ≡ 0
and-zero n = same_from_bits _ _ (λ i. bit_at_and 0 n i ∙ ap (λ (k : ℕ). min k (bit_at n i)) (bit_at-zero i) ∙ (let e : min 0 (bit_at n i) ≡ 0 = omega arith in e) ∙ sym (bit_at-zero i))

pub some-needed : (n : ℕ) (needed : ℕ → Bool) (vs : List ℕ) → AreNeeded n needed → HaveBits vs → not (nat_eq (bit_and (mask vs) n) 0) ≡ list_any needed vs
some-needed n needed [] h low = ap (λ (k : ℕ). not (nat_eq k 0)) (and-zero n)
some-needed n needed (v ∷ vs) h low =
    ap (λ (k : ℕ). not (nat_eq k 0)) (and-or (bit v) (mask vs) n) ∙ or-some (bit_and (bit v) n) (bit_and (mask vs) n)
    ∙ (λ i. (one-some v n low.0 ∙ h v low.0) i || some-needed n needed vs h low.1 i)
