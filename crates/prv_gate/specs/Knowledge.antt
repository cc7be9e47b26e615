-- What is known of variables: each has a value that is known, or none.
use Rattle.std.specs.Prelude.{ℕ, ◌-◌, Bool, not, List, Option, None, slice_index_or, option_map, ℤ, pos, negsuc, suc}
use Rattle.std.specs.Option.{option_map_or}
use Rattle.prv_cnf.specs.declared.literal.Lit.{Lit}
use Rattle.prv_gate.specs.Bits.{constant}
use Rattle.prv_gate.specs.declared.bit.Bit.{Bit}
use Rattle.prv_gate.specs.declared.bit.Bit.TheVariants.{False, True, Lit as Literal}

-- the value that is known of variable k, which stands at k - 1
abbrev pub known_value : List (Option Bool) → ℕ → Option Bool
known_value known k = slice_index_or known (k - 1) None

abbrev pub signed_known : List (Option Bool) → ℤ → Option Bool
signed_known known (pos k) = known_value known k
signed_known known (negsuc k) = option_map not (known_value known (suc k))

-- the value that is known of a literal
abbrev pub known_literal : List (Option Bool) → Lit → Option Bool
known_literal known l = signed_known known l.0

-- the bit, or the constant that it is known to be
abbrev pub reduced : List (Option Bool) → Bit → Bit
reduced known False = False
reduced known True = True
reduced known (Literal l) = option_map_or constant (known_literal known l) (Literal l)
