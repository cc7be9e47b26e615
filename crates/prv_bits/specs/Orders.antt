-- Comparisons of lists of bits of one width.
use Rattle.std.specs.Prelude.{ℕ, ◌-◌, Bool, false, List, [], ◌∷◌, ◌++◌}
use Rattle.prv_bits.specs.Gates.{xor, mux}
use Rattle.prv_bits.specs.Numbers.{zeros, pairwise, any}

-- less, as numbers: from the lowest place up, the highest place at which the two differ decides
abbrev pub below : List Bool → List Bool → Bool
below [] ys = false
below (x ∷ xs) [] = false
below (x ∷ xs) (y ∷ ys) = mux (xor x y) y (below xs ys)

-- less, as words: as numbers with the sign bits exchanged
abbrev pub signed_below : List Bool → List Bool → Bool
signed_below [] ys = false
signed_below (x ∷ xs) [] = false
signed_below (x ∷ xs) (y ∷ ys) = below (y ∷ xs) (x ∷ ys)

-- the two differ at some place
abbrev pub differ : List Bool → List Bool → Bool
differ xs ys = any (pairwise xor xs ys)

-- n bits, of which the lowest alone may be set
abbrev pub flag_bits : ℕ → Bool → List Bool
flag_bits n b = zeros (n - 1) ++ b ∷ []
