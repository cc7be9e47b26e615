-- The gates of two and three bits. The other two are `&&` and `||`.
use Rattle.std.specs.Prelude.{Bool, true, false, ◌&&◌, ◌||◌, not}

-- one of the two bits is set and not the other
abbrev pub xor : Bool → Bool → Bool
xor true b = not b
xor false b = b

-- the first bit where the selector is set, else the second
abbrev pub mux : Bool → Bool → Bool → Bool
mux true chosen other = chosen
mux false chosen other = other

-- an odd number of the three bits is set: the sum of a full adder
abbrev pub parity : Bool → Bool → Bool → Bool
parity a b c = xor (xor a b) c

-- at least two of the three bits are set: the carry of a full adder
abbrev pub majority : Bool → Bool → Bool → Bool
majority true b c = b || c
majority false b c = b && c
