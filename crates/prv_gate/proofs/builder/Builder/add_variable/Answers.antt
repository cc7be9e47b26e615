use Rattle.std.proofs.Common.{◌<◌, subst, sym, ap}
use Rattle.prv_cnf.specs.Formulas.{Formula}
use Rattle.prv_cnf.specs.declared.formula.TheConstants.{MAX_VARS}
use Rattle.prv_gate.specs.Circuits.{IsCircuit}
use Rattle.prv_gate.proofs.Keeping.{IsCircuit-variable}
use Rattle.prv_gate.proofs.Pending.{open-as}
use Rattle.prv_gate.proofs.builder.Builder.add_variable.Goals as goal

pub invariant_of-self : goal.invariant_of-self
invariant_of-self c =
    let room : c.self.inside.cnf.vars < MAX_VARS = rw (← c.self.view_is) at c.requires in
    let P : Formula → Type 0 = λ f. IsCircuit (record { formula = f; gates = c.self.inside.gates.entries; known = c.self.inside.propagator.known.items; is_ended = c.self.inside.is_ended }) in
    (subst P (sym c.add_var.ensures.one_more) (IsCircuit-variable _ room c.self.invariant.0), open-as _ _ _ _ _ (ap (λ (f : Formula). f.clauses) c.add_var.ensures.one_more) c.self.invariant.1)
