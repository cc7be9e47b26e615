use Rattle.std.proofs.Common.{◌≡◌, ◌∙◌, subst, sym, ap, ℕ, Bool, List, [], ◌∷◌, ◌++◌, None}
use Rattle.prv_cnf.specs.declared.literal.Lit.{Lit}
use Rattle.prv_cnf.specs.Formulas.{IsLiteral}
use Rattle.prv_cnf.specs.Literals.{is_literal_true}
use Rattle.prv_cnf.specs.Models.{IsModel}
use Rattle.prv_gate.specs.declared.gate.Gate.{Gate}
use Rattle.prv_gate.specs.Gates.{gate_value}
use Rattle.prv_gate.specs.Circuits.{Circuit, IsCircuit, find_gate, with_gate}
use Rattle.prv_gate.proofs.Keeping.{IsCircuit-gate, insert_entry-gate}
use Rattle.prv_gate.proofs.SameGates.{eq-same}
use Rattle.prv_gate.proofs.builder.Builder.remember.Goals as goal

pub invariant_of-self-2 : goal.invariant_of-self-2
invariant_of-self-2 c =
    let none : find_gate c.args.gate c.self.inside.gates.entries ≡ None = rw (← c.self.view_is) at c.requires.new in
    let inside : IsLiteral c.self.inside.cnf.vars c.args.out = rw (← c.self.view_is) at c.requires.inside in
    let value : (v : ℕ → Bool) → IsModel v c.self.inside.cnf → is_literal_true v c.args.out ≡ gate_value v c.args.gate = rw (← c.self.view_is) at c.requires.value in
    let entries : c.insert.new.self.entries ≡ c.self.inside.gates.entries ++ (c.args.gate, c.args.out) ∷ [] =
    c.in_ok-insert.ensures.entries ∙ insert_entry-gate _ c.args.gate c.args.out c.self.inside.gates.entries (eq-same c.args.gate) none in
    let P : List (Gate × Lit) → Type 0 = λ gates. IsCircuit (record { formula = c.self.inside.cnf; gates = gates; known = c.self.inside.propagator.known.items; is_ended = c.self.inside.is_ended }) in
    (subst P (sym entries) (IsCircuit-gate c.args.gate c.args.out _ inside value c.self.invariant.0), c.self.invariant.1)

pub returns : goal.returns
returns c =
    let none : find_gate c.args.gate c.self.inside.gates.entries ≡ None = rw (← c.self.view_is) at c.requires.new in
    let entries : c.insert.new.self.entries ≡ c.self.inside.gates.entries ++ (c.args.gate, c.args.out) ∷ [] =
    c.in_ok-insert.ensures.entries ∙ insert_entry-gate _ c.args.gate c.args.out c.self.inside.gates.entries (eq-same c.args.gate) none in
    let make : List (Gate × Lit) → Circuit = λ gates. record { formula = c.self.inside.cnf; gates = gates; known = c.self.inside.propagator.known.items; is_ended = c.self.inside.is_ended } in
    ap make entries ∙ ap (with_gate c.args.gate c.args.out) c.self.view_is
