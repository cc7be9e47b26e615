use Rattle.std.proofs.Common.{ap, ◌∙◌}
use Rattle.prv_pool.specs.Folding.{is_folded}
use Rattle.prv_pool.proofs.FoldedLemmas.{truth-folded}
use Rattle.prv_pool.proofs.pool.Pool.truth.Goals as goal

pub make-requires-clause-is_folded : goal.make-requires-clause-is_folded
make-requires-clause-is_folded c = ap is_folded c.fold_truth-answer.ensures.value ∙ truth-folded _ (c.fold_truth-answer.ensures.table.all_folded c.args.a c.requires)
