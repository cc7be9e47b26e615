use Rattle.std.proofs.Common.{◌≡◌, length}
use Rattle.prv_sat.specs.Marking.{AreMarks}
use Rattle.prv_sat.proofs.marks.Marks.clear.Given as goal

abbrev pub invariant-loop-lit : goal.invariant-loop-lit
invariant-loop-lit l = record {
  marks : AreMarks l.self-inside.vars l.self-inside.table.items l.self-inside.touched.items;
  vars : l.self-inside.vars ≡ l.fn.self.vars;
}

abbrev pub decreases-loop-lit : goal.decreases-loop-lit
decreases-loop-lit l = length l.self-inside.touched.items
