-- Products by shifted rows; a row whose bit is known to be unset is left out.
use Rattle.std.specs.Prelude.{List, [], ◌∷◌, ◌++◌, length, take, drop, replicate, if◌then◌else◌}
use Rattle.prv_gate.specs.Knowledge.{reduced}
use Rattle.prv_gate.specs.Circuits.{Circuit, Run, give, and_then}
use Rattle.prv_gate.specs.declared.bit.Bit.{Bit}
use Rattle.prv_gate.specs.declared.bit.Bit.TheVariants.{False}
use Rattle.prv_arith.specs.declared.pairs.PairGate.TheVariants.{And}
use Rattle.prv_arith.specs.Lists.{unset_bits, is_unset}
use Rattle.prv_arith.specs.Pairs.{paired}
use Rattle.prv_arith.specs.Sums.{added}

-- the bits with a shorter row added to the highest of them, where y is set
unfoldable pub row_added : Bit → List Bit → List Bit → Circuit → Run (List Bit)
row_added y row bs s =
    and_then (paired And (replicate (length row) y) row s) (λ gated t.
    and_then (added False gated (take (length row) bs) t) (λ sum u. give (sum ++ drop (length row) bs) u))

-- the same, where nothing is made for a bit that is known to be unset
abbrev pub row_step : Bit → List Bit → List Bit → Circuit → Run (List Bit)
row_step y row bs s = if is_unset (reduced s.known y) then give bs s else row_added y row bs s

-- the first times the second in as many bits as the first: the row of a bit of the second is the first, shifted up to that bit
abbrev pub times : List Bit → List Bit → Circuit → Run (List Bit)
times xs [] s = give (unset_bits (length xs)) s
times xs (y ∷ ys) s = and_then (times xs ys s) (λ bs t. row_step y (drop (length ys) xs) bs t)
