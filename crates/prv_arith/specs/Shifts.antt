-- Shifts: a stage of choices for each bit of the amount, from the lowest up.
use Rattle.std.specs.Prelude.{◌^◌, List, [], ◌∷◌, length}
use Rattle.prv_gate.specs.Circuits.{Circuit, Run, give, and_then}
use Rattle.prv_gate.specs.declared.bit.Bit.{Bit}
use Rattle.prv_gate.specs.declared.bit.Bit.TheVariants.{False}
use Rattle.prv_bits.specs.Places.{raised, lowered}
use Rattle.prv_arith.specs.declared.pairs.PairGate.TheVariants.{Mux}
use Rattle.prv_arith.specs.Pairs.{paired}

-- so many places up as the bits of the amount say
abbrev pub shifted_up : List Bit → List Bit → Circuit → Run (List Bit)
shifted_up [] bs s = give bs s
shifted_up (k ∷ amount) bs s =
    and_then (shifted_up amount bs s) (λ moved t. paired (Mux k) (raised False (2 ^ length amount) moved) moved t)

-- so many places down, with copies of the filling before
abbrev pub shifted_down : Bit → List Bit → List Bit → Circuit → Run (List Bit)
shifted_down filling [] bs s = give bs s
shifted_down filling (k ∷ amount) bs s =
    and_then (shifted_down filling amount bs s) (λ moved t. paired (Mux k) (lowered filling (2 ^ length amount) moved) moved t)
