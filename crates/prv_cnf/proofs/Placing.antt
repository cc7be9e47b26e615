-- Laws of the places of literals.
use Rattle.std.proofs.Common.{◌≡◌, ◌+◌, ◌*◌, ◌≤◌, ℤ, pos, negsuc, unsigned_abs, ap, arith}
use Rattle.prv_cnf.specs.declared.literal.Lit.{Lit}
use Rattle.prv_cnf.specs.Literals.{variable}
use Rattle.prv_cnf.specs.Places.{place_signed, place_of}
use Rattle.prv_cnf.proofs.Values.{same_number}

place_signed-injective : (x y : ℤ) → place_signed x ≡ place_signed y → x ≡ y
place_signed-injective (pos a) (pos b) e = ap pos (omega arith)
place_signed-injective (pos a) (negsuc b) e = absurd (omega arith)
place_signed-injective (negsuc a) (pos b) e = absurd (omega arith)
place_signed-injective (negsuc a) (negsuc b) e = ap negsuc (omega arith)

-- two literals have two places
pub place_of-injective : (x y : Lit) → place_of x ≡ place_of y → x ≡ y
place_of-injective x y e = same_number x y (place_signed-injective x.0 y.0 e)

place_signed-le : (z : ℤ) → place_signed z ≤ 2 * unsigned_abs z
place_signed-le (pos k) = omega arith
place_signed-le (negsuc k) = omega arith

place_signed-ge : (z : ℤ) → 2 * unsigned_abs z ≤ place_signed z + 1
place_signed-ge (pos k) = omega arith
place_signed-ge (negsuc k) = omega arith

-- a place tells the variable
pub place_of-le : (l : Lit) → place_of l ≤ 2 * variable l
place_of-le l = place_signed-le l.0

pub place_of-ge : (l : Lit) → 2 * variable l ≤ place_of l + 1
place_of-ge l = place_signed-ge l.0
