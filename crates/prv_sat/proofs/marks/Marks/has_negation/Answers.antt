use Rattle.std.proofs.Common.{sym, ◌∙◌}
use Rattle.prv_cnf.specs.Literals.{negate}
use Rattle.prv_sat.proofs.Marked.{marked_has}
use Rattle.prv_sat.proofs.marks.Marks.has_negation.Goals as goal

pub returns : goal.returns
returns c =
    rw (← c.self.view_is)
    (c.is_at.ensures
    ∙ rw (c.as_slice.ensures.value, c.negated_place.ensures.value) (sym (marked_has c.self.invariant (negate c.args.lit))))
