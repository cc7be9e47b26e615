use Rattle.std.proofs.Common.{◌≡◌, ◌++◌, ◌∷◌, [], List, ap, arith}
use Rattle.std.proofs.lemmas.List.{nil_from_length}
use Rattle.prv_cnf.specs.declared.literal.Lit.{Lit}
use Rattle.prv_sat.specs.Marking.{AreMarks, marked_of}
use Rattle.prv_sat.proofs.Marked.{marks_pop, marking_none}
use Rattle.prv_sat.proofs.marks.Marks.clear.Goals as goal

pub loop-lit-preserved : goal.loop-lit-preserved
loop-lit-preserved c =
    let rest = c.pop.new.self.items in
    let m : AreMarks c.loop-lit.self-inside.vars c.loop-lit.self-inside.table.items (rest ++ c.in-Some.lit ∷ []) = rw c.in-Some.ensures.items at c.loop-lit.invariant.marks in
    record {
      marks = rw c.place.ensures.value (marks_pop rest c.in-Some.lit m);
      vars = c.loop-lit.invariant.vars;
    }

pub returns : goal.returns
returns c =
    let none : c.pop.new.self.items ≡ [] = nil_from_length c.pop.new.self.items (omega (arith, c.in_default.ensures.cases.1)) in
    marking_none c.loop-lit.self-inside.vars c.args.self.now.vars (marked_of c.loop-lit.self-inside.table.items c.pop.new.self.items) c.loop-lit.invariant.vars (ap (λ (ls : List Lit). marked_of c.loop-lit.self-inside.table.items ls) none)
