-- Products of lists of bits, by shifted rows.
use Rattle.std.specs.Prelude.{Bool, false, List, [], ◌∷◌, ◌++◌, length, take, drop}
use Rattle.prv_bits.specs.Numbers.{zeros, gated}
use Rattle.prv_bits.specs.Sums.{add}

-- the bits with a shorter row added to the highest of them
abbrev pub add_row : List Bool → List Bool → List Bool
add_row row bs = add false row (take (length row) bs) ++ drop (length row) bs

-- the first times the second in as many bits as the first: the row of a bit of the second is the first, shifted up to that bit
abbrev pub product : List Bool → List Bool → List Bool
product xs [] = zeros (length xs)
product xs (y ∷ ys) = add_row (gated y (drop (length ys) xs)) (product xs ys)
