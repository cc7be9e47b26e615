use Rattle.std.proofs.Common.{◌≡◌, List, subst, sym}
use Rattle.prv_cnf.specs.declared.literal.Lit.{Lit}
use Rattle.prv_gate.specs.Circuits.{Circuit, IsCircuit}
use Rattle.prv_gate.specs.Assertions.{settled}
use Rattle.prv_gate.specs.Occurrences.{AreOpen}
use Rattle.prv_gate.proofs.Asserting.{settled-law, propagated}
use Rattle.prv_gate.proofs.builder.Builder.settle.Goals as goal

pub invariant_of-self-then-branch : goal.invariant_of-self-then-branch
invariant_of-self-then-branch c =
    let now : Circuit = record { formula = c.self.inside.cnf; gates = c.self.inside.gates.entries; known = c.self.inside.propagator.known.items; is_ended = c.self.inside.is_ended } in
    let all : record now { known = c.propagate.new.self.known.items } ≡ settled now =
    propagated now c.vars-vars.result c.clauses.result.now c.vars-vars.ensures.value c.clauses.ensures.value c.propagate.new.self.known.items
    (c.in_ok-propagate.ensures.calm c.if-branch.true) (c.in_ok-propagate.ensures.closure c.if-branch.true) in
    let opened : List (List Lit) → Type 0 = λ cs. AreOpen cs c.propagate.new.self.known.items c.propagate.new.self.entered c.propagate.new.self.occurrences in
    (subst IsCircuit (sym all) (settled-law now c.self.invariant.0).0, subst opened c.clauses.ensures.value c.propagate.ensures.open)
