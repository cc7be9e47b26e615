use Rattle.std.proofs.Common.{Bool, true, List, [], Option, subst, sym}
use Rattle.prv_cnf.specs.Formulas.{Formula}
use Rattle.prv_gate.specs.Circuits.{IsCircuit}
use Rattle.prv_gate.proofs.Asserting.{ended-circuit}
use Rattle.prv_gate.proofs.Pending.{open-none}
use Rattle.prv_gate.proofs.builder.Builder.end.Goals as goal

pub invariant_of-self-2 : goal.invariant_of-self-2
invariant_of-self-2 c =
    let P : Formula → List (Option Bool) → Type 0 = λ f known. IsCircuit (record { formula = f; gates = c.self.inside.gates.entries; known = known; is_ended = true }) in (
      subst (P c.push_clause.new.self) (sym c.clear.ensures.known) (subst (λ f. P f []) (sym c.in_ok-push_clause.ensures.ok) (ended-circuit _ c.self.invariant.0)),
      open-none _ _ _ _ c.clear.ensures.entered c.clear.ensures.lists,
    )
