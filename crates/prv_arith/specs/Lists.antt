-- Lists of bits of a circuit, the highest bit first.
use Rattle.std.specs.Prelude.{ℕ, suc, ◌+◌, ◌≤◌, Bool, true, false, List, [], ◌∷◌, map, replicate, slice_index_or, Option, if◌then◌else◌}
use Rattle.std.specs.List.{AllByRecursion}
use Rattle.prv_cnf.specs.declared.formula.TheConstants.{MAX_VARS}
use Rattle.prv_gate.specs.Bits.{IsBit, bit_value, negate_bit}
use Rattle.prv_gate.specs.Knowledge.{reduced}
use Rattle.prv_gate.specs.Circuits.{Circuit, Run, give, IsCircuit}
use Rattle.prv_gate.specs.declared.bit.Bit.{Bit}
use Rattle.prv_gate.specs.declared.bit.Bit.TheVariants.{False, True, Lit as Literal}

-- each bit is of the first n variables
abbrev pub AllBits : ℕ → List Bit → Type 0
AllBits n bs = AllByRecursion (IsBit n) bs

-- the values of bits, where the variable k has the value v k
abbrev pub values : (ℕ → Bool) → List Bit → List Bool
values v bs = map (bit_value v) bs

-- so many bits, none of them ever set
abbrev pub unset_bits : ℕ → List Bit
unset_bits n = replicate n False

-- every bit the other way
abbrev pub opposites : List Bit → List Bit
opposites bs = map negate_bit bs

-- the highest bit
abbrev pub top_bit : List Bit → Bit
top_bit bs = slice_index_or bs 0 False

-- a bit that is never set
abbrev pub is_unset : Bit → Bool
is_unset False = true
is_unset True = false
is_unset (Literal l) = false

-- how many of the highest bits are known to be unset
abbrev pub leading : List (Option Bool) → List Bit → ℕ
leading known [] = 0
leading known (b ∷ bs) = if is_unset (reduced known b) then suc (leading known bs) else 0

-- the bit of a run above others
abbrev pub with_top : Run Bit → List Bit → Run (List Bit)
with_top r bs = give (r.out ∷ bs) r.circuit

-- a bit and a list, of the first n variables
abbrev pub AreCarried : ℕ → Bit × List Bit → Type 0
AreCarried n p = IsBit n p.0 × AllBits n p.1

abbrev pub carried_values : (ℕ → Bool) → Bit × List Bit → Bool × List Bool
carried_values v p = (bit_value v p.0, values v p.1)

-- two lists, of the first n variables
abbrev pub AreLists : ℕ → List Bit × List Bit → Type 0
AreLists n p = AllBits n p.0 × AllBits n p.1

-- What a circuit over two lists wants: they are of the variables, and there is room for so many more.
pub record IsReady (cost : ℕ) (s : Circuit) (xs ys : List Bit) : Type 0 where
  pub circuit : IsCircuit s
  pub first : AllBits s.formula.vars xs
  pub second : AllBits s.formula.vars ys
  pub room : s.formula.vars + cost ≤ MAX_VARS
