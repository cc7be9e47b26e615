use Rattle.std.proofs.Common.{◌++◌, codes}
use Rattle.prv_text.specs.Entries.{marks_text, words_text}
use Rattle.prv_text.proofs.Capped.{one_more_piece}
use Rattle.prv_text.proofs.entry.push_kind.Goals as goal

pub returns-in_ok-push_marks-in-Different : goal.returns-in_ok-push_marks-in-Different
returns-in_ok-push_marks-in-Different c =
    let old = c.args.out.now.items in
    let words = words_text c.in-Different.sample in
    let e1 = c.in_ok-extend_from_slice-in-Different.ensures.items in
    let e2 = one_more_piece old _ _ (codes "different at ") words e1 (rw c.as_slice.ensures.value at c.in_ok-push_words-in-Different.ensures) in
    let e3 = one_more_piece old _ _ (codes "different at " ++ words) (codes " marks ") e2 c.in_ok-extend_from_slice-in-Different-2.ensures.items in
    rw c.in-Different.is (one_more_piece old _ _ (codes "different at " ++ words ++ codes " marks ") (marks_text c.args.marks.now) e3 c.in_ok-push_marks-in-Different.ensures)

pub returns-in_ok-push_marks-in-Beyond : goal.returns-in_ok-push_marks-in-Beyond
returns-in_ok-push_marks-in-Beyond c =
    let old = c.args.out.now.items in
    rw c.in-Beyond.is (one_more_piece old _ _ (codes "beyond marks ") (marks_text c.args.marks.now) c.in_ok-extend_from_slice-in-Beyond.ensures.items c.in_ok-push_marks-in-Beyond.ensures)
