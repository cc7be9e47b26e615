use Rattle.std.proofs.Common.{◌≡◌, take}
use Rattle.prv_sat.specs.Marking.{AreMarkedToo}
use Rattle.prv_sat.proofs.analysis.mark_negations.Given as goal

abbrev pub invariant-loop-lit : goal.invariant-loop-lit
invariant-loop-lit l = record {
  marked : AreMarkedToo l.fn.marks.marked (take l.lit-index l.lits) l.except l.marks.marked;
  vars : l.marks.vars ≡ l.fn.marks.vars;
}
