-- Comparisons of lists of one width, by one choice a place from the lowest up.
use Rattle.std.specs.Prelude.{ℕ, ◌-◌, List, [], ◌∷◌, ◌++◌}
use Rattle.prv_gate.specs.Circuits.{Circuit, Run, give, and_then}
use Rattle.prv_gate.specs.Folding.{xor_gate, mux_gate}
use Rattle.prv_gate.specs.declared.bit.Bit.{Bit}
use Rattle.prv_gate.specs.declared.bit.Bit.TheVariants.{False}
use Rattle.prv_arith.specs.declared.pairs.PairGate.TheVariants.{Xor}
use Rattle.prv_arith.specs.Lists.{unset_bits}
use Rattle.prv_arith.specs.Pairs.{paired, some}

-- less, as numbers: the highest place at which the two differ decides
abbrev pub less : List Bit → List Bit → Circuit → Run Bit
less [] ys s = give False s
less (x ∷ xs) [] s = give False s
less (x ∷ xs) (y ∷ ys) s = and_then (less xs ys s) (λ c t. and_then (xor_gate x y t) (λ d u. mux_gate d y c u))

-- less, as words: as numbers with the sign bits exchanged
abbrev pub signed_less : List Bit → List Bit → Circuit → Run Bit
signed_less [] ys s = give False s
signed_less (x ∷ xs) [] s = give False s
signed_less (x ∷ xs) (y ∷ ys) s = less (y ∷ xs) (x ∷ ys) s

-- the two differ at some place
unfoldable pub unlike : List Bit → List Bit → Circuit → Run Bit
unlike xs ys s = and_then (paired Xor xs ys s) (λ places t. some False places t)

-- n bits, of which the lowest alone may be set
abbrev pub flag : ℕ → Bit → List Bit
flag n b = unset_bits (n - 1) ++ b ∷ []
