-- A gate on the bits at each place of two lists, and a gate over all bits of one.
use Rattle.std.specs.Prelude.{ℕ, Bool, ◌&&◌, ◌||◌, List, [], ◌∷◌}
use Rattle.prv_gate.specs.Bits.{IsBit, bit_value, negate_bit}
use Rattle.prv_gate.specs.Circuits.{Circuit, Run, give, and_then, opposite}
use Rattle.prv_gate.specs.Folding.{and_gate, xor_gate, mux_gate}
use Rattle.prv_gate.specs.declared.bit.Bit.{Bit}
use Rattle.prv_bits.specs.Gates.{xor, mux}
use Rattle.prv_arith.specs.declared.pairs.PairGate.{PairGate}
use Rattle.prv_arith.specs.declared.pairs.PairGate.TheVariants.{And, Or, Xor, Mux}
use Rattle.prv_arith.specs.Lists.{with_top}

-- one of the bits is true
abbrev pub or_gate : Bit → Bit → Circuit → Run Bit
or_gate a b s = opposite (and_gate (negate_bit a) (negate_bit b) s)

-- the gate of two bits
abbrev pub pair_gate : PairGate → Bit → Bit → Circuit → Run Bit
pair_gate And a b s = and_gate a b s
pair_gate Or a b s = or_gate a b s
pair_gate Xor a b s = xor_gate a b s
pair_gate (Mux c) a b s = mux_gate c a b s

-- its value
abbrev pub pair_value : PairGate → (ℕ → Bool) → Bool → Bool → Bool
pair_value And v a b = a && b
pair_value Or v a b = a || b
pair_value Xor v a b = xor a b
pair_value (Mux c) v a b = mux (bit_value v c) a b

-- the gate on the bits at each place, from the lowest up
abbrev pub paired : PairGate → List Bit → List Bit → Circuit → Run (List Bit)
paired gate [] ys s = give [] s
paired gate (x ∷ xs) [] s = give [] s
paired gate (x ∷ xs) (y ∷ ys) s = and_then (paired gate xs ys s) (λ bs t. with_top (pair_gate gate x y t) bs)

-- c or one of the bits is true, from the highest down
abbrev pub some : Bit → List Bit → Circuit → Run Bit
some c [] s = give c s
some c (b ∷ bs) s = and_then (or_gate c b s) (λ d t. some d bs t)

-- the gate's own bit is of the first n variables
abbrev pub IsPairGate : ℕ → PairGate → Type 0
IsPairGate n And = Unit {0}
IsPairGate n Or = Unit {0}
IsPairGate n Xor = Unit {0}
IsPairGate n (Mux c) = IsBit n c
