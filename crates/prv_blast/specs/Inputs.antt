-- Where a formula's variables stand for an input: 32 for each parameter, the highest bit of parameter 0 first.
use Rattle.std.specs.Prelude.{ℕ, ◌+◌, ◌*◌, pos, Bool, List, map, ℤ}
use Rattle.std.specs.List.{range_with_len}
use Rattle.prv_gate.specs.declared.bit.Bit.{Bit}
use Rattle.prv_gate.specs.declared.bit.Bit.TheVariants.{Lit as Literal}
use Rattle.prv_bits.specs.Numbers.{word}

-- the variables of parameter k, its highest bit first
abbrev pub variables : ℕ → List ℕ
variables k = range_with_len (32 * k + 1) 32

-- its bits
abbrev pub param_bits : ℕ → List Bit
param_bits k = map (λ i. Literal (record { 0 = pos i })) (variables k)

-- the input of n words whose bits are the values of the first variables
abbrev pub input_at : ℕ → (ℕ → Bool) → List ℤ
input_at n v = map (λ k. word (map v (variables k))) (range_with_len 0 n)
