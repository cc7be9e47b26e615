-- A clause that is contained in another has no bit that the other hasn't.
use Rattle.std.proofs.Common.{◌≡◌, ℕ, suc, zero, ◌+◌, ◌*◌, ◌/◌, ◌%◌, ◌<◌, ◌^◌, true, List, [], ◌∷◌, refl, sym, ap, ◌∙◌, inl, inr, add-one, arith}
use Rattle.std.specs.Prelude.{bit_or}
use Rattle.std.specs.Int.Bits.{or_self}
use Rattle.std.proofs.Math.Nat.{pow-suc}
use Rattle.std.proofs.lemmas.Nat.{or_comm, or_shr, or_mod, div-add-mod', mod_below, shr_below}
use Rattle.std.proofs.lemmas.Bool.{or_cases, or_right}
use Rattle.prv_cnf.specs.declared.literal.Lit.{Lit}
use Rattle.prv_cnf.specs.Literals.{same_literal, has_literal}
use Rattle.prv_cnf.proofs.Values.{same_literal-eq, same_literal_refl, all-has_literal}
use Rattle.prv_check.specs.Inner.Signatures.{literal_bit, signature, signature_with}
use Rattle.prv_check.specs.Freshness.{contains_clause}

digit_assoc : (x y z : ℕ) → x < 2 → y < 2 → z < 2 → bit_or (bit_or x y) z ≡ bit_or x (bit_or y z)
digit_assoc zero y z hx hy hz = refl
digit_assoc (suc zero) zero z hx hy hz = refl
digit_assoc (suc zero) (suc zero) zero hx hy hz = refl
digit_assoc (suc zero) (suc zero) (suc zero) hx hy hz = refl
digit_assoc (suc zero) (suc zero) (suc (suc z)) hx hy hz = absurd (omega arith)
digit_assoc (suc zero) (suc (suc y)) z hx hy hz = absurd (omega arith)
digit_assoc (suc (suc x)) y z hx hy hz = absurd (omega arith)

-- the low digit, and what is above it
halves : (a b c : ℕ) → bit_or (bit_or (a / 2) (b / 2)) (c / 2) ≡ bit_or (a / 2) (bit_or (b / 2) (c / 2)) → bit_or (bit_or a b) c ≡ bit_or a (bit_or b c)
halves a b c above =
    let left : bit_or (bit_or a b) c / 2 ≡ bit_or (bit_or (a / 2) (b / 2)) (c / 2) = or_shr (bit_or a b) c 1 ∙ ap (λ (n : ℕ). bit_or n (c / 2)) (or_shr a b 1) in
    let right : bit_or a (bit_or b c) / 2 ≡ bit_or (a / 2) (bit_or (b / 2) (c / 2)) = or_shr a (bit_or b c) 1 ∙ ap (λ (n : ℕ). bit_or (a / 2) n) (or_shr b c 1) in
    let low : bit_or (bit_or a b) c % 2 ≡ bit_or a (bit_or b c) % 2 =
    or_mod (bit_or a b) c 1 ∙ ap (λ (n : ℕ). bit_or n (c % 2)) (or_mod a b 1)
    ∙ digit_assoc (a % 2) (b % 2) (c % 2) (mod_below a 2 (omega arith)) (mod_below b 2 (omega arith)) (mod_below c 2 (omega arith))
    ∙ sym (or_mod a (bit_or b c) 1 ∙ ap (λ (n : ℕ). bit_or (a % 2) n) (or_mod b c 1)) in
    let high : bit_or (bit_or a b) c / 2 ≡ bit_or a (bit_or b c) / 2 = left ∙ above ∙ sym right in
    sym (div-add-mod' (bit_or (bit_or a b) c) 2)
    ∙ ap (λ (n : ℕ). n * 2 + bit_or (bit_or a b) c % 2) high
    ∙ ap (λ (n : ℕ). bit_or a (bit_or b c) / 2 * 2 + n) low
    ∙ div-add-mod' (bit_or a (bit_or b c)) 2

-- below 2 to the power of k, a digit at a time
assoc_below : (k a b c : ℕ) → a < 2 ^ k → bit_or (bit_or a b) c ≡ bit_or a (bit_or b c)
assoc_below zero zero b c small = refl
assoc_below zero (suc a) b c small = absurd (omega arith)
assoc_below (suc k) a b c small =
    let bound : a < 2 ^ (k + 1) = rw add-one small in
    halves a b c (assoc_below k (a / 2) (b / 2) (c / 2) (shr_below a k 1 bound))

pub or_assoc : (a b c : ℕ) → bit_or (bit_or a b) c ≡ bit_or a (bit_or b c)
or_assoc a b c = assoc_below a a b c (below_pow a)
  where
    below_pow : (n : ℕ) → n < 2 ^ n
    below_pow zero = omega arith
    below_pow (suc n) = let h : n < 2 ^ n = below_pow n in let e : 2 ^ suc n ≡ 2 ^ n * 2 = pow-suc 2 n in omega arith

-- bits that are there stay, whatever more is added
stays : (x bits : ℕ) (ls : List Lit) → bit_or x bits ≡ bits → bit_or x (signature_with bits ls) ≡ signature_with bits ls
stays x bits [] there = there
stays x bits (l ∷ ls) there =
    stays x (bit_or bits (literal_bit l)) ls (sym (or_assoc x bits (literal_bit l)) ∙ ap (λ (n : ℕ). bit_or n (literal_bit l)) there)

-- each literal's bit is there
has_bit : (bits : ℕ) (ls : List Lit) (l : Lit) → has_literal ls l ≡ true → bit_or (literal_bit l) (signature_with bits ls) ≡ signature_with bits ls
has_bit bits [] l here = absurd cc
has_bit bits (x ∷ xs) l here =
    elim (or_cases (same_literal l x) (has_literal xs l) here) [
      | inl first ↦
          let b : ℕ = literal_bit x in
          let there : bit_or b (bit_or bits b) ≡ bit_or bits b =
          ap (λ (n : ℕ). bit_or b n) (or_comm bits b) ∙ sym (or_assoc b b bits) ∙ ap (λ (n : ℕ). bit_or n bits) (or_self b) ∙ or_comm b bits in
          rw (same_literal-eq l x first) (stays b (bit_or bits b) xs there)
      | inr later ↦ has_bit (bit_or bits (literal_bit x)) xs l later
    ]

joined : (bits all : ℕ) (ls : List Lit) → bit_or bits all ≡ all → ((l : Lit) → has_literal ls l ≡ true → bit_or (literal_bit l) all ≡ all) → bit_or (signature_with bits ls) all ≡ all
joined bits all [] there each = there
joined bits all (l ∷ ls) there each =
    let first : bit_or (literal_bit l) all ≡ all = each l (rw (same_literal_refl l) refl) in
    joined (bit_or bits (literal_bit l)) all ls
    (or_assoc bits (literal_bit l) all ∙ ap (λ (n : ℕ). bit_or bits n) first ∙ there)
    (λ x here. each x (or_right (same_literal x l) (has_literal ls x) here))

pub contained_signature : (c d : List Lit) → contains_clause c d ≡ true → bit_or (signature d) (signature c) ≡ signature c
contained_signature c d contained =
    joined 0 (signature c) d refl (λ l here. has_bit 0 c l (all-has_literal (has_literal c) d l contained here))
