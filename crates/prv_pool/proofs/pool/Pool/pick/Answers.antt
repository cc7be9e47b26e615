use Rattle.std.proofs.Common.{ap, ◌∙◌}
use Rattle.prv_pool.specs.Folding.{is_folded}
use Rattle.prv_pool.proofs.FoldedLemmas.{picking-folded}
use Rattle.prv_pool.proofs.pool.Pool.pick.Goals as goal

pub make-requires-clause-is_folded : goal.make-requires-clause-is_folded
make-requires-clause-is_folded c =
    let table = c.fold_pick-answer.ensures.table in
    ap is_folded c.fold_pick-answer.ensures.value
    ∙ picking-folded _ _ _ (table.all_folded c.args.c c.requires.test) (table.all_folded c.args.a c.requires.chosen) (table.all_folded c.args.b c.requires.other)
