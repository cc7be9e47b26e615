-- Assertions: one of some bits is to be true.
use Rattle.std.specs.Prelude.{◌≡◌, ℕ, ◌+◌, ◌≤◌, Bool, true, List, [], ◌∷◌, Option, None, Some, option_map, length, ◌↔◌, if◌then◌else◌}
use Rattle.std.specs.List.{list_any}
use Rattle.std.specs.Option.{option_map_or}
use Rattle.prv_cnf.specs.declared.literal.Lit.{Lit}
use Rattle.prv_cnf.specs.Models.{IsModel}
use Rattle.prv_gate.specs.Bits.{bit_value}
use Rattle.prv_gate.specs.Knowledge.{reduced}
use Rattle.prv_gate.specs.Circuits.{Circuit, with_clauses, IsCircuit}
use Rattle.prv_gate.specs.Propagation.{closure, has_conflict}
use Rattle.prv_gate.specs.declared.bit.Bit.{Bit}
use Rattle.prv_gate.specs.declared.bit.Bit.TheVariants.{False, True, Lit as Literal}

-- a bit beside the literals of a clause: none where the clause is true
abbrev pub with_bit : Bit → Option (List Lit) → Option (List Lit)
with_bit False rest = rest
with_bit True rest = None
with_bit (Literal l) rest = option_map (λ ls. l ∷ ls) rest

-- the clause of the bits, after what is known: none where one of them is known to be true
abbrev pub clause_of : List (Option Bool) → List Bit → Option (List Lit)
clause_of known [] = Some []
clause_of known (b ∷ bs) = with_bit (reduced known b) (clause_of known bs)

-- the formula ended by the empty clause
abbrev pub ended : Circuit → Circuit
ended s = record (with_clauses ([] ∷ []) s) { known = []; is_ended = true }

-- the circuit with all that follows from its clauses, ended where they contradict each other
abbrev pub settled : Circuit → Circuit
settled s =
    if has_conflict s.formula.clauses (closure s.formula s.known) then ended s
    else record s { known = closure s.formula s.known }

-- the circuit with a clause more
abbrev pub with_asserted : Circuit → List Lit → Circuit
with_asserted s [] = ended s
with_asserted s (l ∷ ls) = settled (with_clauses ((l ∷ ls) ∷ []) s)

-- the circuit in which one of the bits is true
unfoldable pub asserted : List Bit → Circuit → Circuit
asserted bits s = if s.is_ended then s else option_map_or (with_asserted s) (clause_of s.known bits) s

-- the second circuit has the first one's variables and at most two clauses more, and its models are
-- those of the first in which one of the bits is true
pub record Asserts (bits : List Bit) (s t : Circuit) : Type 0 where
  pub circuit : IsCircuit t
  pub vars : t.formula.vars ≡ s.formula.vars
  pub cost : length t.formula.clauses ≤ length s.formula.clauses + 2
  pub models : (v : ℕ → Bool) → IsModel v t.formula ↔ (IsModel v s.formula × (list_any (bit_value v) bits ≡ true))
