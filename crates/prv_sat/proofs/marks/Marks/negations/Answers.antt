use Rattle.prv_sat.proofs.Marked.{no_repeat-filter, all-filter}
use Rattle.prv_check.specs.Lines.{is_within}
use Rattle.prv_sat.specs.Marking.{is_marked}
use Rattle.prv_sat.proofs.marks.Marks.negations.Goals as goal

pub returns-clause-once : goal.returns-clause-once
returns-clause-once c = rw (← c.self.view_is) (no_repeat-filter (is_marked c.self.inside.table.items) c.self.inside.touched.items c.self.invariant.once)

pub returns-clause-within : goal.returns-clause-within
returns-clause-within c = rw (← c.self.view_is) (all-filter (is_within c.self.inside.vars) (is_marked c.self.inside.table.items) c.self.inside.touched.items c.self.invariant.within)
