-- How a form spells a number, and which number it takes for a word.
use Rattle.std.specs.Prelude.{ℕ, zero, suc, ◌+◌, ◌*◌, ◌/◌, ◌%◌, List, [], ◌∷◌, ℤ, pos, negsuc, nat_lt, if◌then◌else◌}
use Rattle.std.specs.Int.{w32, w64, to_le_bytes, cast_unsigned, cast_signed}
use Rattle.prv_codec.specs.declared.form.Form.{Form}
use Rattle.prv_codec.specs.declared.form.Form.TheVariants.{One, Two}

-- a number in groups of seven bits, the lowest first, where at most so many more may follow the first: each byte but the last has its high bit set (the unsigned LEB128 of DWARF 5, section 7.6, in its shortest form)
unfoldable pub groups : ℕ → ℕ → List ℕ
groups zero n = n ∷ []
groups (suc more) n = if nat_lt n 128 then n ∷ [] else (128 + n % 128) ∷ groups more (n / 128)

-- the numbers that so many groups behind the first serve, where the last group is below top, are those below this one
abbrev pub bound : ℕ → ℕ → ℕ
bound top zero = top
bound top (suc more) = 128 * bound top more

-- a number of 32 bits, and one of 64
abbrev pub number : Form → ℕ → List ℕ
number One n = to_le_bytes w32 n
number Two n = groups 4 n

abbrev pub long : Form → ℕ → List ℕ
long One n = to_le_bytes w64 n
long Two n = groups 9 n

-- the number that a word is written as: its two's complement, or 0, -1, 1, -2, 2 .. in turn
unfoldable pub code : Form → ℤ → ℕ
code One v = cast_unsigned w32 v
code Two (pos n) = 2 * n
code Two (negsuc n) = 2 * n + 1

-- the word that is written as a number
abbrev pub halved : ℕ → ℕ → ℤ
halved zero half = pos half
halved (suc n) half = negsuc half

unfoldable pub decoded : Form → ℕ → ℤ
decoded One n = cast_signed w32 n
decoded Two n = halved (n % 2) (n / 2)

abbrev pub word : Form → ℤ → List ℕ
word form v = number form (code form v)
