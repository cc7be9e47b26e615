-- Shifts of lists of bits: a stage for each bit of the amount, from the lowest up.
use Rattle.std.specs.Prelude.{◌^◌, Bool, false, List, [], ◌∷◌, length}
use Rattle.prv_bits.specs.Places.{raised, lowered}
use Rattle.prv_bits.specs.Numbers.{choose}

-- so many places up as the bits of the amount say
abbrev pub shift_up : List Bool → List Bool → List Bool
shift_up [] bs = bs
shift_up (k ∷ amount) bs = let moved = shift_up amount bs in choose k (raised false (2 ^ length amount) moved) moved

-- so many places down, with copies of s before
abbrev pub shift_down : Bool → List Bool → List Bool → List Bool
shift_down s [] bs = bs
shift_down s (k ∷ amount) bs = let moved = shift_down s amount bs in choose k (lowered s (2 ^ length amount) moved) moved
