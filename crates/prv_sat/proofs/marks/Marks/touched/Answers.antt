use Rattle.prv_sat.proofs.Marked.{marked_touched}
use Rattle.prv_sat.proofs.marks.Marks.touched.Goals as goal

pub returns : goal.returns
returns c = rw (← c.self.view_is, c.as_slice.ensures.value) (marked_touched c.self.inside.table.items c.self.inside.touched.items)
