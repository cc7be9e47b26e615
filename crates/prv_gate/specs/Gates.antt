-- Gates over literals: their values, and the clauses that fix their outputs.
use Rattle.std.specs.Prelude.{ℕ, Bool, true, false, not, ◌&&◌, ◌||◌, nat_le, List, [], ◌∷◌, ℤ, pos, negsuc, if◌then◌else◌}
use Rattle.prv_cnf.specs.declared.literal.Lit.{Lit}
use Rattle.prv_cnf.specs.Literals.{variable, negate, is_literal_true, same_literal}
use Rattle.prv_gate.specs.declared.gate.Gate.{Gate}
use Rattle.prv_gate.specs.declared.gate.Gate.TheVariants.{And, Xor, Mux, Majority, Parity}

-- the bits differ
abbrev pub differ : Bool → Bool → Bool
differ false b = b
differ true b = not b

-- at least two of the bits are true
abbrev pub majority : Bool → Bool → Bool → Bool
majority false b c = b && c
majority true b c = b || c

-- the value of a gate, where the variable k has the value v k
abbrev pub gate_value : (ℕ → Bool) → Gate → Bool
gate_value v (And a b) = is_literal_true v a && is_literal_true v b
gate_value v (Xor a b) = differ (is_literal_true v a) (is_literal_true v b)
gate_value v (Mux s a b) = if is_literal_true v s then is_literal_true v a else is_literal_true v b
gate_value v (Majority a b c) = majority (is_literal_true v a) (is_literal_true v b) (is_literal_true v c)
gate_value v (Parity a b c) = differ (differ (is_literal_true v a) (is_literal_true v b)) (is_literal_true v c)

-- the clauses that give the literal o the gate's value
abbrev pub gate_clauses : Gate → Lit → List (List Lit)
gate_clauses (And a b) o =
    (negate o ∷ a ∷ []) ∷ (negate o ∷ b ∷ []) ∷ (o ∷ negate a ∷ negate b ∷ []) ∷ []
gate_clauses (Xor a b) o =
    (negate o ∷ a ∷ b ∷ []) ∷ (negate o ∷ negate a ∷ negate b ∷ []) ∷ (o ∷ negate a ∷ b ∷ []) ∷ (o ∷ a ∷ negate b ∷ []) ∷ []
gate_clauses (Mux s a b) o =
    (negate o ∷ negate s ∷ a ∷ []) ∷ (o ∷ negate s ∷ negate a ∷ []) ∷ (negate o ∷ s ∷ b ∷ []) ∷ (o ∷ s ∷ negate b ∷ []) ∷ []
gate_clauses (Majority a b c) o =
    (negate o ∷ a ∷ b ∷ []) ∷ (negate o ∷ a ∷ c ∷ []) ∷ (negate o ∷ b ∷ c ∷ [])
    ∷ (o ∷ negate a ∷ negate b ∷ []) ∷ (o ∷ negate a ∷ negate c ∷ []) ∷ (o ∷ negate b ∷ negate c ∷ []) ∷ []
gate_clauses (Parity a b c) o =
    (negate o ∷ a ∷ b ∷ c ∷ []) ∷ (negate o ∷ a ∷ negate b ∷ negate c ∷ [])
    ∷ (negate o ∷ negate a ∷ b ∷ negate c ∷ []) ∷ (negate o ∷ negate a ∷ negate b ∷ c ∷ [])
    ∷ (o ∷ negate a ∷ b ∷ c ∷ []) ∷ (o ∷ a ∷ negate b ∷ c ∷ [])
    ∷ (o ∷ a ∷ b ∷ negate c ∷ []) ∷ (o ∷ negate a ∷ negate b ∷ negate c ∷ []) ∷ []

-- what holds of each input
abbrev pub HoldsOfInputs : (Lit → Type 0) → Gate → Type 0
HoldsOfInputs P (And a b) = P a × P b
HoldsOfInputs P (Xor a b) = P a × P b
HoldsOfInputs P (Mux s a b) = P s × P a × P b
HoldsOfInputs P (Majority a b c) = P a × P b × P c
HoldsOfInputs P (Parity a b c) = P a × P b × P c

-- whether two gates are the same
abbrev pub same_gate : Gate → Gate → Bool
same_gate (And a b) (And c d) = same_literal a c && same_literal b d
same_gate (Xor a b) (Xor c d) = same_literal a c && same_literal b d
same_gate (Mux s a b) (Mux t c d) = same_literal s t && (same_literal a c && same_literal b d)
same_gate (Majority a b c) (Majority d e f) = same_literal a d && (same_literal b e && same_literal c f)
same_gate (Parity a b c) (Parity d e f) = same_literal a d && (same_literal b e && same_literal c f)
same_gate _ _ = false

-- whether a literal is of a negated variable
abbrev pub is_negative_number : ℤ → Bool
is_negative_number (pos k) = false
is_negative_number (negsuc k) = true

abbrev pub is_negative : Lit → Bool
is_negative l = is_negative_number l.0

-- the literal of the variable itself
abbrev pub positive : Lit → Lit
positive l = record { 0 = pos (variable l) }

-- two literals in the order of their variables
abbrev pub ordered : Lit → Lit → Lit × Lit
ordered a b = if nat_le (variable a) (variable b) then (a, b) else (b, a)
