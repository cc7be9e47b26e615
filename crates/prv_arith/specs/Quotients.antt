-- Quotients and remainders by restoring division, in which bits known to be unset are left out.
use Rattle.std.specs.Prelude.{List, [], ◌∷◌, ◌++◌, length, drop, replicate}
use Rattle.prv_gate.specs.Bits.{negate_bit}
use Rattle.prv_gate.specs.Circuits.{Circuit, Run, give, and_then}
use Rattle.prv_gate.specs.Folding.{and_gate, xor_gate}
use Rattle.prv_gate.specs.declared.bit.Bit.{Bit}
use Rattle.prv_gate.specs.declared.bit.Bit.TheVariants.{False, True}
use Rattle.prv_bits.specs.Places.{low, high, padded}
use Rattle.prv_arith.specs.declared.pairs.PairGate.TheVariants.{And, Mux}
use Rattle.prv_arith.specs.Lists.{opposites, top_bit, leading}
use Rattle.prv_arith.specs.Pairs.{or_gate, paired, some}
use Rattle.prv_arith.specs.Sums.{summed, negated, magnitude}

-- whether r is not below d, from its bits above those of d, those of d above its own, and the carry of the difference
unfoldable pub fitting : List Bit → List Bit → Bit → Circuit → Run Bit
fitting d r carry s =
    and_then (some False (high (length d) r) s) (λ over t.
    and_then (some False (high (length r) d) t) (λ above u.
    and_then (and_gate (negate_bit above) carry u) (λ within w. or_gate over within w)))

-- whether d fits into r, and r less d where it does, else r, in no more bits than d has
unfoldable pub divided_step : List Bit → List Bit → Circuit → Run (Bit × List Bit)
divided_step d r s =
    and_then (summed True (low (length d) r) (low (length r) (opposites d)) s) (λ difference t.
    and_then (fitting d r difference.0 t) (λ fits u.
    and_then (paired (Mux fits) difference.1 (low (length d) r) u) (λ rest w. give (fits, rest) w)))

-- the same, where bits of what is left that are known to be unset are left out
abbrev pub trimmed_step : List Bit → List Bit → Circuit → Run (Bit × List Bit)
trimmed_step d r s = and_then (divided_step d r s) (λ step t. give (step.0, drop (leading t.known step.1) step.1) t)

-- the bits q of a quotient and those that follow, a bit for each of xs, and what is left of r in the end
abbrev pub divided_on : List Bit → List Bit → List Bit → List Bit → Circuit → Run (List Bit × List Bit)
divided_on d q r [] s = give (q, r) s
divided_on d q r (x ∷ xs) s =
    and_then (trimmed_step d (r ++ x ∷ []) s) (λ step t. divided_on d (q ++ step.0 ∷ []) step.1 xs t)

-- the quotient and what is left, of bits of which the highest that are known to be unset are left out
unfoldable pub divided : List Bit → List Bit → Circuit → Run (List Bit × List Bit)
divided d xs s = divided_on (drop (leading s.known d) d) [] [] (drop (leading s.known xs) xs) s

-- the bits, with unset ones before them, where c is set
unfoldable pub masked : Bit → List Bit → List Bit → Circuit → Run (List Bit)
masked c xs bs s = paired And (replicate (length xs) c) (padded False (length xs) bs) s

-- whether the divisor isn't 0, and the quotient and what is left of the magnitudes
unfoldable pub signed_division : List Bit → List Bit → Circuit → Run (Bit × List Bit × List Bit)
signed_division xs ys s =
    and_then (some False ys s) (λ nonzero t.
    and_then (magnitude xs t) (λ dividend u.
    and_then (magnitude ys u) (λ divisor w.
    and_then (divided divisor dividend w) (λ both z. give (nonzero, both.0, both.1) z))))

-- the quotient of words, rounded toward zero
unfoldable pub signed_quotient : List Bit → List Bit → Circuit → Run (List Bit)
signed_quotient xs ys s =
    and_then (signed_division xs ys s) (λ division t.
    and_then (masked division.0 xs division.1 t) (λ raw u.
    and_then (xor_gate (top_bit xs) (top_bit ys) u) (λ sign w. negated sign raw w)))

-- the remainder of words, with the dividend's sign
unfoldable pub signed_remainder : List Bit → List Bit → Circuit → Run (List Bit)
signed_remainder xs ys s =
    and_then (signed_division xs ys s) (λ division t.
    and_then (masked division.0 xs division.2 t) (λ raw u. negated (top_bit xs) raw u))
