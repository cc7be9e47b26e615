-- What a full adder answers: the low bit and the carry of a sum of three bits.
use Rattle.std.specs.Prelude.{ℕ, Bool}
use Rattle.prv_gate.specs.Bits.{IsBit, bit_value}
use Rattle.prv_gate.specs.Gates.{differ, majority}
use Rattle.prv_gate.specs.declared.bit.Bit.{Bit}

-- both bits are of the first n variables
abbrev pub AreBits : ℕ → Bit × Bit → Type 0
AreBits n p = IsBit n p.0 × IsBit n p.1

-- the values of two bits
abbrev pub bit_values : (ℕ → Bool) → Bit × Bit → Bool × Bool
bit_values v p = (bit_value v p.0, bit_value v p.1)

-- the low bit and the carry of the sum of three bits
abbrev pub sum_and_carry : Bool → Bool → Bool → Bool × Bool
sum_and_carry a b c = (differ (differ a b) c, majority a b c)
