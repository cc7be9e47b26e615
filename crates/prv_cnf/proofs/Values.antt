-- Lemmas on the values of literals, and on literals in lists.
use Rattle.std.proofs.Common.{◌≡◌, ℕ, suc, zero, ◌<◌, Bool, true, not, List, [], ◌∷◌, ℤ, pos, negsuc, neg_ℤ, unsigned_abs, refl, sym, ap, arith}
use Rattle.std.proofs.Math.Bool.{not-not}
use Rattle.std.specs.List.{list_all}
use Rattle.std.proofs.lemmas.Bool.Decides.{Decides-int_eq}
use Rattle.prv_cnf.specs.declared.literal.Lit.{Lit}
use Rattle.prv_cnf.specs.Literals.{variable, negate, signed_value, is_literal_true, same_literal, has_literal}

-- literals of one number are one
pub same_number : (a b : Lit) → a.0 ≡ b.0 → a ≡ b
same_number a b e = let make : ℤ → Lit = λ z. record { 0 = z } in ap make e

pub same_literal-eq : (a b : Lit) → same_literal a b ≡ true → a ≡ b
same_literal-eq a b h = same_number a b ((Decides-int_eq a.0 b.0).0 h)

pub same_literal_refl : (a : Lit) → same_literal a a ≡ true
same_literal_refl a = (Decides-int_eq a.0 a.0).1 refl

pub signed_value-neg : (v : ℕ → Bool) (z : ℤ) → 0 < unsigned_abs z → signed_value v (neg_ℤ z) ≡ not (signed_value v z)
signed_value-neg v (pos zero) h = absurd (omega arith)
signed_value-neg v (pos (suc n)) h = refl
signed_value-neg v (negsuc n) h = sym (not-not (v (suc n)))

-- the negation of a literal has the other value
pub is_literal_true-negate : (v : ℕ → Bool) (l : Lit) → 0 < variable l → is_literal_true v (negate l) ≡ not (is_literal_true v l)
is_literal_true-negate v l h = signed_value-neg v l.0 h

pub neg_neg : (z : ℤ) → neg_ℤ (neg_ℤ z) ≡ z
neg_neg (pos zero) = refl
neg_neg (pos (suc n)) = refl
neg_neg (negsuc n) = refl

pub negate-negate : (l : Lit) → negate (negate l) ≡ l
negate-negate l = same_number (negate (negate l)) l (neg_neg l.0)

variable_neg : (z : ℤ) → unsigned_abs (neg_ℤ z) ≡ unsigned_abs z
variable_neg (pos zero) = refl
variable_neg (pos (suc n)) = refl
variable_neg (negsuc n) = refl

-- a literal and its negation have one variable
pub variable-negate : (l : Lit) → variable (negate l) ≡ variable l
variable-negate l = variable_neg l.0

-- what holds of each literal of a list holds of one that stands in it
pub all-has_literal : (p : Lit → Bool) (ls : List Lit) (l : Lit) → list_all p ls ≡ true → has_literal ls l ≡ true → p l ≡ true
all-has_literal p [] l all here = absurd cc
all-has_literal p (x ∷ xs) l all here = grind (arith, same_literal-eq, all-has_literal p xs l)
