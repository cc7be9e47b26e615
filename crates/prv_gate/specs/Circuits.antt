-- Circuits: the formula made so far, the gates in it, and what is known of its variables.
use Rattle.std.specs.Prelude.{◌≡◌, ℕ, ◌+◌, ◌<◌, ◌≤◌, length, pos, Bool, true, false, List, [], ◌∷◌, ◌++◌, Option, None, Some}
use Rattle.std.specs.Map.{lookup}
use Rattle.std.specs.Option.{option_map_or}
use Rattle.prv_cnf.specs.declared.literal.Lit.{Lit}
use Rattle.prv_cnf.specs.Literals.{is_literal_true}
use Rattle.prv_cnf.specs.Formulas.{Formula, IsFormula, IsLiteral}
use Rattle.prv_cnf.specs.Models.{IsModel, HasNoModel}
use Rattle.prv_gate.specs.Bits.{negate_bit, flip_bit}
use Rattle.prv_gate.specs.Gates.{gate_value, gate_clauses, same_gate, HoldsOfInputs}
use Rattle.prv_gate.specs.Knowledge.{known_value, known_literal, reduced}
use Rattle.prv_gate.specs.declared.bit.Bit.{Bit}
use Rattle.prv_gate.specs.declared.bit.Bit.TheVariants.{False, True, Lit as Literal}
use Rattle.prv_gate.specs.declared.gate.Gate.{Gate}

-- the formula, the gates made with their outputs, the known value of variable k at k - 1, and
-- whether the formula was ended by the empty clause
pub record Circuit : Type 0 where
  pub formula : Formula
  pub gates : List (Gate × Lit)
  pub known : List (Option Bool)
  pub is_ended : Bool

-- the circuit of n variables with no gates
abbrev pub blank : ℕ → Circuit
blank n = record { formula = record { vars = n; clauses = [] }; gates = []; known = []; is_ended = false }

-- what a step answers, and the circuit after it
pub record Run (A : Type 0) : Type 0 where
  pub out : A
  pub circuit : Circuit

-- the circuit as it is
abbrev pub give : {A : Type 0} → A → Circuit → Run A
give a s = record { out = a; circuit = s }

-- one step after another
abbrev pub and_then : {A B : Type 0} → Run A → (A → Circuit → Run B) → Run B
and_then r next = next r.out r.circuit

-- the formula with one more variable
abbrev pub with_variable : Circuit → Circuit
with_variable s = record s { formula = record s.formula { vars = s.formula.vars + 1 } }

-- the formula with clauses at its end
abbrev pub with_clauses : List (List Lit) → Circuit → Circuit
with_clauses cs s = record s { formula = record s.formula { clauses = s.formula.clauses ++ cs } }

-- the table with a gate and its output at the end
abbrev pub with_gate : Gate → Lit → Circuit → Circuit
with_gate g o s = record s { gates = s.gates ++ (g, o) ∷ [] }

-- the literal of the variable that is made next
abbrev pub next_output : Circuit → Lit
next_output s = record { 0 = pos (s.formula.vars + 1) }

-- the gate made anew: a variable, its clauses, and the entry in the table
abbrev pub defined : Gate → Circuit → Run Lit
defined g s = give (next_output s) (with_gate g (next_output s) (with_clauses (gate_clauses g (next_output s)) (with_variable s)))

-- the output of a gate that was made before
abbrev pub find_gate : Gate → List (Gate × Lit) → Option Lit
find_gate g gates = lookup (same_gate g) gates

-- the gate's output: that of the table, or a new one
unfoldable pub made : Gate → Circuit → Run Lit
made g s = option_map_or (λ o. give o s) (find_gate g s.gates) (defined g s)

-- the output as a bit, negated where the flag is set
abbrev pub flipped : Bool → Run Lit → Run Bit
flipped flag r = give (flip_bit flag (Literal r.out)) r.circuit

-- the bit that a run answers, negated
abbrev pub opposite : Run Bit → Run Bit
opposite r = give (negate_bit r.out) r.circuit

-- a bit as what is known of it
abbrev pub known_bit : Bit → Circuit → Run Bit
known_bit b s = give (reduced s.known b) s

-- a literal of a variable of the circuit whose value isn't known
abbrev pub IsFreeLiteral : Circuit → Lit → Type 0
IsFreeLiteral s l = IsLiteral s.formula.vars l × (known_literal s.known l ≡ None)

-- a constant, or a free literal
abbrev pub IsFree : Circuit → Bit → Type 0
IsFree s False = Unit {0}
IsFree s True = Unit {0}
IsFree s (Literal l) = IsFreeLiteral s l

-- each input of the gate is free
abbrev pub IsFreeGate : Circuit → Gate → Type 0
IsFreeGate s g = HoldsOfInputs (IsFreeLiteral s) g

-- What holds of each circuit: the output of a gate in the table has the gate's value in each model,
-- a variable has the value that is known of it in each model, and an ended formula has no model.
pub record IsCircuit (s : Circuit) : Type 0 where
  pub formula : IsFormula s.formula
  pub gates : (g : Gate) (o : Lit) → find_gate g s.gates ≡ Some o →
      IsLiteral s.formula.vars o × ((v : ℕ → Bool) → IsModel v s.formula → is_literal_true v o ≡ gate_value v g)
  pub known : (k : ℕ) (b : Bool) → 0 < k → known_value s.known k ≡ Some b →
      (v : ℕ → Bool) → IsModel v s.formula → v k ≡ b
  pub size : length s.known ≤ s.formula.vars
  pub ended : s.is_ended ≡ true → HasNoModel s.formula
