-- A gate that is made: its output has the gate's value, and no other extension is a model.
use Rattle.std.proofs.Common.{◌≡◌, ℕ, ◌+◌, ◌<◌, ◌≤◌, Bool, true, cond, ◌==◌, Option, None, Some, length, refl, ap, sym, ◌∙◌, arith, length-append, ◌≢◌, ⊎_elim, if◌then◌else◌}
use Rattle.std.specs.List.{list_all}
use Rattle.std.specs.Option.{option_map_or}
use Rattle.std.proofs.lemmas.Bool.Decides.{eqb_tells}
use Rattle.prv_cnf.specs.declared.literal.Lit.{Lit}
use Rattle.prv_cnf.specs.Literals.{is_literal_true}
use Rattle.prv_cnf.specs.Formulas.{IsLiteral}
use Rattle.prv_cnf.specs.Models.{IsModel, is_clause_true}
use Rattle.prv_cnf.specs.declared.formula.TheConstants.{MAX_VARS}
use Rattle.prv_gate.specs.Gates.{gate_value, gate_clauses, HoldsOfInputs}
use Rattle.prv_gate.specs.Circuits.{Circuit, give, IsCircuit, with_variable, with_clauses, next_output, defined, made, find_gate}
use Rattle.prv_gate.specs.Growth.{Agrees, Gives}
use Rattle.prv_gate.specs.declared.gate.Gate.{Gate}
use Rattle.prv_gate.proofs.Frames.{IsLiteral-more, clauses-agree}
use Rattle.prv_gate.proofs.Keeping.{IsCircuit-variable, IsCircuit-clauses, IsCircuit-gate, IsModel-first, IsModel-last, IsModel-both}
use Rattle.prv_gate.proofs.Tables.{same-eq, same-refl, gate_clauses-true, gate_value-agree, gate_clauses-inside, inputs-more}
use Rattle.prv_gate.proofs.Composing.{grows-here}

-- the values with another one for one variable
abbrev pub updated : (ℕ → Bool) → ℕ → Bool → ℕ → Bool
updated v k b j = if j == k then b else v j

updated-same : (v : ℕ → Bool) (k : ℕ) (b : Bool) → updated v k b k ≡ b
updated-same v k b = ⊎_elim (λ e. ap (λ (t : Bool). cond t b (v k)) e.0) (λ e. absurd (e.1 refl)) (eqb_tells k k)

updated-agrees : (v : ℕ → Bool) (n : ℕ) (b : Bool) → Agrees n v (updated v (n + 1) b)
updated-agrees v n b j h le = ⊎_elim (λ e. let same_number : j ≡ n + 1 = e.1 in absurd (omega arith)) (λ e. sym (ap (λ (t : Bool). cond t b (v j)) e.0)) (eqb_tells j (n + 1))

agrees-one-more : (v w : ℕ → Bool) (n : ℕ) → Agrees n v w → v (n + 1) ≡ w (n + 1) → Agrees (n + 1) v w
agrees-one-more v w n a last k h le =
    ⊎_elim (λ e. rw e.1 last) (λ e. let apart : k ≢ n + 1 = e.1 in a k h (omega arith)) (eqb_tells k (n + 1))

module _ (g : Gate) (s : Circuit) (h : IsCircuit s) (inside : HoldsOfInputs (IsLiteral s.formula.vars) g) (room : s.formula.vars < MAX_VARS) where
  inputs_after : HoldsOfInputs (IsLiteral (s.formula.vars + 1)) g
  inputs_after = inputs-more g (IsLiteral s.formula.vars) (IsLiteral (s.formula.vars + 1)) (λ l k. IsLiteral-more s.formula.vars (s.formula.vars + 1) l (omega arith) k) inside

  output_inside : IsLiteral (s.formula.vars + 1) (next_output s)
  output_inside = (omega arith, omega arith)

  -- in a model of the new formula the output has the gate's value
  pub defined-value : (v : ℕ → Bool) → IsModel v (defined g s).circuit.formula → v (s.formula.vars + 1) ≡ gate_value v g
  defined-value v model =
      same-eq (v (s.formula.vars + 1)) (gate_value v g)
      (sym (gate_clauses-true (s.formula.vars + 1) v g (next_output s) output_inside inputs_after) ∙ IsModel-last (with_variable s).formula (gate_clauses g (next_output s)) v model)

  with_output : IsCircuit (with_clauses (gate_clauses g (next_output s)) (with_variable s))
  with_output =
      IsCircuit-clauses (gate_clauses g (next_output s)) (with_variable s) (gate_clauses-inside (s.formula.vars + 1) g (next_output s) output_inside inputs_after) (IsCircuit-variable s room h)

  pub defined-circuit : IsCircuit (defined g s).circuit
  defined-circuit = IsCircuit-gate g (next_output s) (with_clauses (gate_clauses g (next_output s)) (with_variable s)) output_inside defined-value with_output

  -- the model that extends a model of the formula before
  extension : (v : ℕ → Bool) → IsModel v s.formula → IsModel (updated v (s.formula.vars + 1) (gate_value v g)) (defined g s).circuit.formula
  extension v model =
      let w : ℕ → Bool = updated v (s.formula.vars + 1) (gate_value v g) in
      let agree : Agrees s.formula.vars v w = updated-agrees v s.formula.vars (gate_value v g) in
      let old : list_all (is_clause_true v) s.formula.clauses ≡ true = model in
      let first : list_all (is_clause_true w) s.formula.clauses ≡ true = sym (clauses-agree s.formula.vars v w s.formula.clauses agree h.formula.1) ∙ old in
      let output : w (s.formula.vars + 1) ≡ gate_value w g = updated-same v (s.formula.vars + 1) (gate_value v g) ∙ gate_value-agree s.formula.vars v w g agree inside in
      IsModel-both (with_variable s).formula (gate_clauses g (next_output s)) w first
      (gate_clauses-true (s.formula.vars + 1) w g (next_output s) output_inside inputs_after ∙ same-refl (w (s.formula.vars + 1)) (gate_value w g) output)

  pub defined-gives : (c : ℕ) → 1 ≤ c → length (gate_clauses g (next_output s)) ≤ c → Gives IsLiteral is_literal_true c s (defined g s) (λ v. gate_value v g)
  defined-gives c one cost = record {
    grows = record {
      circuit = defined-circuit;
      vars_kept = omega arith;
      vars_cost = omega arith;
      clauses_cost = omega (arith, length-append s.formula.clauses (gate_clauses g (next_output s)));
      restricts = λ v model. IsModel-first (with_variable s).formula (gate_clauses g (next_output s)) v model;
      extends = λ v model. (updated v (s.formula.vars + 1) (gate_value v g), updated-agrees v s.formula.vars (gate_value v g), extension v model);
      determines = λ v w mv mw agree. agrees-one-more v w s.formula.vars agree (defined-value v mv ∙ gate_value-agree s.formula.vars v w g agree inside ∙ sym (defined-value w mw));
    };
    inside = output_inside;
    value = λ v model. defined-value v model;
  }

  found-gives : (c : ℕ) (o : Lit) → find_gate g s.gates ≡ Some o → Gives IsLiteral is_literal_true c s (give o s) (λ v. gate_value v g)
  found-gives c o found = record { grows = grows-here c s h; inside = (h.gates g o found).0; value = λ v model. (h.gates g o found).1 v model }

  by_entry : (c : ℕ) → 1 ≤ c → length (gate_clauses g (next_output s)) ≤ c → (r : Option Lit) → find_gate g s.gates ≡ r →
      Gives IsLiteral is_literal_true c s (option_map_or (λ o. give o s) r (defined g s)) (λ v. gate_value v g)
  by_entry c one cost None e = defined-gives c one cost
  by_entry c one cost (Some o) e = found-gives c o e

  pub made-gives : (c : ℕ) → 1 ≤ c → length (gate_clauses g (next_output s)) ≤ c → Gives IsLiteral is_literal_true c s (made g s) (λ v. gate_value v g)
  unfolding made
  made-gives c one cost = by_entry c one cost (find_gate g s.gates) refl

  vars_by_entry : (r : Option Lit) → (option_map_or (λ o. give o s) r (defined g s)).circuit.formula.vars ≤ s.formula.vars + 1
  vars_by_entry None = omega arith
  vars_by_entry (Some o) = omega arith

  pub made-vars : (made g s).circuit.formula.vars ≤ s.formula.vars + 1
  unfolding made
  made-vars = vars_by_entry (find_gate g s.gates)
