-- Quotients and remainders of lists of bits, by restoring division.
use Rattle.std.specs.Prelude.{Bool, false, ◌&&◌, ◌||◌, not, List, [], ◌∷◌, ◌++◌, length}
use Rattle.prv_bits.specs.Gates.{xor}
use Rattle.prv_bits.specs.Places.{low, high, padded}
use Rattle.prv_bits.specs.Numbers.{gated, choose, any, sign}
use Rattle.prv_bits.specs.Sums.{subtract, reaches, negate_if, magnitude}

-- r is not below d, whichever of the two has more bits
abbrev pub fits : List Bool → List Bool → Bool
fits d r = any (high (length d) r) || (not (any (high (length r) d)) && reaches (low (length d) r) (low (length r) d))

-- r less d where d fits, else r, in no more bits than d has
abbrev pub reduce : List Bool → List Bool → List Bool
reduce d r = choose (fits d r) (subtract (low (length d) r) (low (length r) d)) (low (length d) r)

-- the quotient by d of the bits r and xs behind one another, a bit for each of xs
abbrev pub quotient : List Bool → List Bool → List Bool → List Bool
quotient d r [] = []
quotient d r (x ∷ xs) = let s = r ++ x ∷ [] in fits d s ∷ quotient d (reduce d s) xs

-- what is left behind the quotient
abbrev pub rest : List Bool → List Bool → List Bool → List Bool
rest d r [] = r
rest d r (x ∷ xs) = rest d (reduce d (r ++ x ∷ [])) xs

-- both are 0 where c isn't set, for which the callers take that the divisor isn't 0
abbrev pub divided : Bool → List Bool → List Bool → List Bool
divided c xs d = gated c (quotient d [] xs)

abbrev pub left_over : Bool → List Bool → List Bool → List Bool
left_over c xs d = gated c (padded false (length xs) (rest d [] xs))

-- the quotient of words, rounded toward zero
abbrev pub signed_quotient : List Bool → List Bool → List Bool
signed_quotient xs ys = negate_if (xor (sign xs) (sign ys)) (divided (any ys) (magnitude xs) (magnitude ys))

-- the remainder of words, with the dividend's sign
abbrev pub signed_remainder : List Bool → List Bool → List Bool
signed_remainder xs ys = negate_if (sign xs) (left_over (any ys) (magnitude xs) (magnitude ys))
