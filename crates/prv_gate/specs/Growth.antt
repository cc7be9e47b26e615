-- How circuits grow: what a step adds, and what its answer means.
use Rattle.std.specs.Prelude.{◌≡◌, ℕ, ◌+◌, ◌<◌, ◌≤◌, Bool, length}
use Rattle.prv_cnf.specs.Models.{IsModel}
use Rattle.prv_gate.specs.Circuits.{Circuit, Run, IsCircuit}

-- the values of the first n variables are the same
abbrev pub Agrees : ℕ → (ℕ → Bool) → (ℕ → Bool) → Type 0
Agrees n v w = (k : ℕ) → 0 < k → k ≤ n → v k ≡ w k

-- The second circuit has the first one's clauses and variables, and at most `cost` more of each; each
-- model of the first has exactly one extension that is a model of the second.
pub record Grows (cost : ℕ) (s t : Circuit) : Type 0 where
  pub circuit : IsCircuit t
  pub vars_kept : s.formula.vars ≤ t.formula.vars
  pub vars_cost : t.formula.vars ≤ s.formula.vars + cost
  pub clauses_cost : length t.formula.clauses ≤ length s.formula.clauses + cost
  pub restricts : (v : ℕ → Bool) → IsModel v t.formula → IsModel v s.formula
  pub extends : (v : ℕ → Bool) → IsModel v s.formula →
      (w : ℕ → Bool) × Agrees s.formula.vars v w × IsModel w t.formula
  pub determines : (v w : ℕ → Bool) → IsModel v t.formula → IsModel w t.formula →
      Agrees s.formula.vars v w → Agrees t.formula.vars v w

-- A step that answers bits of the circuit after it, which read as f of each model. `Inside n` says of
-- an answer that it is of the first n variables, and `read` gives its value.
pub record Gives {A B : Type 0} (Inside : ℕ → A → Type 0) (read : (ℕ → Bool) → A → B) (cost : ℕ)
    (s : Circuit) (r : Run A) (f : (ℕ → Bool) → B) : Type 0 where
  pub grows : Grows cost s r.circuit
  pub inside : Inside r.circuit.formula.vars r.out
  pub value : (v : ℕ → Bool) → IsModel v r.circuit.formula → read v r.out ≡ f v
