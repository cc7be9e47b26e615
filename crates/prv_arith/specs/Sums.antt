-- Sums of lists of one width, by a full adder at each place from the lowest up.
use Rattle.std.specs.Prelude.{List, [], ◌∷◌, length, replicate}
use Rattle.prv_gate.specs.Circuits.{Circuit, Run, give, and_then}
use Rattle.prv_gate.specs.Folding.{xor_gate, full_adder}
use Rattle.prv_gate.specs.declared.bit.Bit.{Bit}
use Rattle.prv_arith.specs.declared.pairs.PairGate.TheVariants.{Xor}
use Rattle.prv_arith.specs.Lists.{unset_bits, top_bit, with_top}
use Rattle.prv_arith.specs.Pairs.{paired}

-- the carry out of the highest place, where c goes into the lowest, and the bits of the sum
abbrev pub summed : Bit → List Bit → List Bit → Circuit → Run (Bit × List Bit)
summed c [] ys s = give (c, []) s
summed c (x ∷ xs) [] s = give (c, []) s
summed c (x ∷ xs) (y ∷ ys) s =
    and_then (summed c xs ys s) (λ lower t. and_then (full_adder x y lower.0 t) (λ p u. give (p.1, p.0 ∷ lower.1) u))

-- the sum in as many bits: no carry out of the highest place is made
abbrev pub added : Bit → List Bit → List Bit → Circuit → Run (List Bit)
added c [] ys s = give [] s
added c (x ∷ xs) [] s = give [] s
added c (x ∷ xs) (y ∷ ys) s =
    and_then (summed c xs ys s) (λ lower t. and_then (xor_gate x y t) (λ d u. with_top (xor_gate d lower.0 u) lower.1))

-- the negative where c is set: every bit the other way, and one more
unfoldable pub negated : Bit → List Bit → Circuit → Run (List Bit)
negated c bs s = and_then (paired Xor (replicate (length bs) c) bs s) (λ flipped t. added c flipped (unset_bits (length bs)) t)

-- how far a word is from 0
abbrev pub magnitude : List Bit → Circuit → Run (List Bit)
magnitude bs s = negated (top_bit bs) bs s
