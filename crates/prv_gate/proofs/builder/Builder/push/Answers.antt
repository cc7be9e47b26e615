use Rattle.std.proofs.Common.{[], ◌∷◌}
use Rattle.std.specs.List.{AllByRecursion}
use Rattle.prv_cnf.specs.Formulas.{Formula, IsLiteral}
use Rattle.prv_gate.specs.Circuits.{IsCircuit}
use Rattle.prv_gate.proofs.Keeping.{IsCircuit-clauses, after_change}
use Rattle.prv_gate.specs.Occurrences.{AreOpen}
use Rattle.prv_gate.proofs.Pending.{open-more}
use Rattle.prv_gate.proofs.builder.Builder.push.Goals as goal

pub invariant_of-self : goal.invariant_of-self
invariant_of-self c =
    let inside : AllByRecursion (IsLiteral c.self.inside.cnf.vars) c.args.lits.now = rw (← c.self.view_is) at c.requires in
    let P : Formula → Type 0 = λ f. IsCircuit (record { formula = f; gates = c.self.inside.gates.entries; known = c.self.inside.propagator.known.items; is_ended = c.self.inside.is_ended })
    × AreOpen f.clauses c.self.inside.propagator.known.items c.self.inside.propagator.entered c.self.inside.propagator.occurrences in
    after_change P _ _ _ _ c.push_clause.ensures.ok c.push_clause.ensures.err
    (IsCircuit-clauses (c.args.lits.now ∷ []) _ (inside, tt) c.self.invariant.0, open-more c.self.inside.cnf.clauses (c.args.lits.now ∷ []) _ _ _ c.self.invariant.1) c.self.invariant
