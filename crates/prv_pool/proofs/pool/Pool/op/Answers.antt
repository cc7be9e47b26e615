use Rattle.std.proofs.Common.{ap, ◌∙◌}
use Rattle.prv_pool.specs.Folding.{is_folded}
use Rattle.prv_pool.proofs.FoldedLemmas.{folding-folded}
use Rattle.prv_pool.proofs.pool.Pool.op.Goals as goal

pub make-requires-clause-is_folded : goal.make-requires-clause-is_folded
make-requires-clause-is_folded c =
    ap is_folded c.fold-answer.ensures.value
    ∙ folding-folded c.args.op _ _ (c.fold-answer.ensures.table.all_folded c.args.a c.requires.first) (c.fold-answer.ensures.table.all_folded c.args.b c.requires.second)
