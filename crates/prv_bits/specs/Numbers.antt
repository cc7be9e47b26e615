-- Lists of bits as numbers and as words, the highest bit first.
use Rattle.std.specs.Prelude.{ℕ, zero, suc, ◌+◌, ◌*◌, ◌/◌, ◌%◌, ◌^◌, Bool, true, false, ◌&&◌, ◌||◌, not, ◌==◌, List, [], ◌∷◌, length, map, replicate, ℤ}
use Rattle.std.specs.Int.{w32, cast_unsigned, cast_signed}
use Rattle.prv_bits.specs.Gates.{mux}

-- what a bit counts
abbrev pub bit : Bool → ℕ
bit true = 1
bit false = 0

-- the number whose binary digits the bits are
abbrev pub number : List Bool → ℕ
number [] = 0
number (b ∷ bs) = bit b * 2 ^ length bs + number bs

-- the word that 32 bits are in two's complement
abbrev pub word : List Bool → ℤ
word bs = cast_signed w32 (number bs)

-- the lowest digits of a number in binary, so many
abbrev pub digits : ℕ → ℕ → List Bool
digits zero n = []
digits (suc k) n = (n / 2 ^ k % 2 == 1) ∷ digits k n

-- the 32 bits of a word
abbrev pub bits_of : ℤ → List Bool
bits_of z = digits 32 (cast_unsigned w32 z)

-- so many bits, none of them set
abbrev pub zeros : ℕ → List Bool
zeros n = replicate n false

-- every bit the other way
abbrev pub flip : List Bool → List Bool
flip bs = map not bs

-- the bits where c is set, else as many zeros
abbrev pub gated : Bool → List Bool → List Bool
gated c bs = map (λ b. c && b) bs

-- a gate on the bits at each place
abbrev pub pairwise : (Bool → Bool → Bool) → List Bool → List Bool → List Bool
pairwise gate [] ys = []
pairwise gate (x ∷ xs) [] = []
pairwise gate (x ∷ xs) (y ∷ ys) = gate x y ∷ pairwise gate xs ys

-- the first bits where c is set, else the second
abbrev pub choose : Bool → List Bool → List Bool → List Bool
choose c xs ys = pairwise (mux c) xs ys

-- c is set, or some bit is
abbrev pub any_from : Bool → List Bool → Bool
any_from c [] = c
any_from c (b ∷ bs) = any_from (c || b) bs

-- some bit is set
abbrev pub any : List Bool → Bool
any bs = any_from false bs

-- the highest bit
abbrev pub sign : List Bool → Bool
sign [] = false
sign (b ∷ bs) = b
