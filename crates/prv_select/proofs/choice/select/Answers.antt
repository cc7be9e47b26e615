use Rattle.std.proofs.Common.{◌≡◌, List, None, ap, ◌∙◌, refl}
use Rattle.prv_model.specs.declared.stmt.Stmt.{Stmt}
use Rattle.prv_select.specs.declared.mark_set.MarkSet.{MarkSet}
use Rattle.prv_select.specs.declared.walk.Walk.{Walk}
use Rattle.prv_select.specs.Choices.{rising_below}
use Rattle.prv_select.specs.MarkSets.{has_mark}
use Rattle.prv_select.specs.Places.{outside, places_all}
use Rattle.prv_select.proofs.Selecting.{at_end, kept-program, marks-program}
use Rattle.prv_select.proofs.choice.select.Goals as goal

pub same-result : goal.same-result
same-result c = refl

pub returns-clause-events : goal.returns-clause-events
returns-clause-events c = λ x turns told deps.
    let begins : record { needed = 0; entered = 0; skipped = None; marks = c.none.result } ≡ at_end = ap (λ (m : MarkSet). record { needed = 0; entered = 0; skipped = None; marks = m }) c.none.ensures in
    c.walk_back.ensures.kept
    ∙ kept-program c.args.program.now turns x _ _ _ _ (c.as_slice-3.ensures ∙ told) (c.rows.ensures ∙ deps)
    (c.as_slice-2.ensures ∙ c.in_ok-places.ensures ∙ ap (λ (b : List Stmt). places_all b outside 0) c.as_slice.ensures) begins

pub returns-clause-marks : goal.returns-clause-marks
returns-clause-marks c = λ x turns told deps.
    let begins : record { needed = 0; entered = 0; skipped = None; marks = c.none.result } ≡ at_end = ap (λ (m : MarkSet). record { needed = 0; entered = 0; skipped = None; marks = m }) c.none.ensures in
    c.in_ok-marks_below.ensures ∙ ap (λ (w : Walk). rising_below (λ m. has_mark w.marks m) 256) c.walk_back.ensures.walk
    ∙ marks-program c.args.program.now turns x _ _ _ _ 256 refl (c.as_slice-3.ensures ∙ told) (c.rows.ensures ∙ deps)
    (c.as_slice-2.ensures ∙ c.in_ok-places.ensures ∙ ap (λ (b : List Stmt). places_all b outside 0) c.as_slice.ensures) begins
