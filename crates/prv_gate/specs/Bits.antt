-- Bits of a circuit: constants and literals.
use Rattle.std.specs.Prelude.{ℕ, Bool, true, false}
use Rattle.prv_cnf.specs.Literals.{negate, is_literal_true}
use Rattle.prv_cnf.specs.Formulas.{IsLiteral}
use Rattle.prv_gate.specs.declared.bit.Bit.{Bit}
use Rattle.prv_gate.specs.declared.bit.Bit.TheVariants.{False, True, Lit as Literal}

-- a constant, or a literal of one of the first n variables
abbrev pub IsBit : ℕ → Bit → Type 0
IsBit n False = Unit {0}
IsBit n True = Unit {0}
IsBit n (Literal l) = IsLiteral n l

-- the value of a bit, where the variable k has the value v k
abbrev pub bit_value : (ℕ → Bool) → Bit → Bool
bit_value v False = false
bit_value v True = true
bit_value v (Literal l) = is_literal_true v l

-- the bit with the other value
abbrev pub negate_bit : Bit → Bit
negate_bit False = True
negate_bit True = False
negate_bit (Literal l) = Literal (negate l)

-- the bit that always has a value
abbrev pub constant : Bool → Bit
constant false = False
constant true = True

-- the bit, or the bit with the other value
abbrev pub flip_bit : Bool → Bit → Bit
flip_bit false b = b
flip_bit true b = negate_bit b
