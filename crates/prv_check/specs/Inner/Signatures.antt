-- Signatures of clauses: a few bits that tell most clauses which another can't contain.
use Rattle.std.specs.Prelude.{ℕ, ◌*◌, ◌/◌, ◌%◌, ◌^◌, List, [], ◌∷◌, bit_or}
use Rattle.prv_cnf.specs.declared.literal.Lit.{Lit}
use Rattle.prv_cnf.specs.Places.{place_of}

-- the bit of a literal, by the highest six bits of its hashed place
abbrev pub literal_bit : Lit → ℕ
literal_bit l = 2 ^ (place_of l * 0x9E3779B1 % 2 ^ 32 / 2 ^ 26)

-- the bits with those of the literals
abbrev pub signature_with : ℕ → List Lit → ℕ
signature_with bits [] = bits
signature_with bits (l ∷ ls) = signature_with (bit_or bits (literal_bit l)) ls

-- the bits of a clause's literals
abbrev pub signature : List Lit → ℕ
signature c = signature_with 0 c
