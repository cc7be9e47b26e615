use Rattle.std.proofs.Common.{sym, ◌∙◌}
use Rattle.std.proofs.lemmas.List.{take_rest}
use Rattle.prv_lex.proofs.CommentLemmas.{closing_on}
use Rattle.prv_lex.proofs.comment.closing.Goals as goal

pub loop-i-preserved : goal.loop-i-preserved
loop-i-preserved c =
    let tested = rw take_rest at c.starts_with.ensures.value in
    closing_on c.loop-i.i c.args.text.now _ c.loop-i-test.true (sym tested ∙ c.if-starts_with.false) c.loop-i.invariant
