-- Sums of lists of bits of one width, by a full adder at each place from the lowest up.
use Rattle.std.specs.Prelude.{Bool, true, ◌&&◌, List, [], ◌∷◌, map}
use Rattle.prv_bits.specs.Gates.{xor, parity, majority}
use Rattle.prv_bits.specs.Numbers.{flip, sign}

-- the carry out of the highest place, where c goes into the lowest
abbrev pub carry : Bool → List Bool → List Bool → Bool
carry c [] ys = c
carry c (x ∷ xs) [] = c
carry c (x ∷ xs) (y ∷ ys) = majority x y (carry c xs ys)

-- the sum in as many bits; no carry out of the highest place is made
abbrev pub add : Bool → List Bool → List Bool → List Bool
add c [] ys = []
add c (x ∷ xs) [] = []
add c (x ∷ xs) (y ∷ ys) = parity x y (carry c xs ys) ∷ add c xs ys

-- the first less the second
abbrev pub subtract : List Bool → List Bool → List Bool
subtract xs ys = add true xs (flip ys)

-- the first is not below the second: their difference carries out of the highest place
abbrev pub reaches : List Bool → List Bool → Bool
reaches xs ys = carry true xs (flip ys)

-- the carry out of the highest place of the bits and c: c and all bits are set
abbrev pub ripple : Bool → List Bool → Bool
ripple c [] = c
ripple c (b ∷ bs) = b && ripple c bs

-- one more where c is set
abbrev pub increment : Bool → List Bool → List Bool
increment c [] = []
increment c (b ∷ bs) = xor b (ripple c bs) ∷ increment c bs

-- the negative where c is set: every bit the other way, and one more
abbrev pub negate_if : Bool → List Bool → List Bool
negate_if c bs = increment c (map (xor c) bs)

-- how far a word is from 0
abbrev pub magnitude : List Bool → List Bool
magnitude bs = negate_if (sign bs) bs
