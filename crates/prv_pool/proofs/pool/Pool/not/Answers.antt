use Rattle.std.proofs.Common.{ap, ◌∙◌}
use Rattle.prv_pool.specs.Folding.{is_folded}
use Rattle.prv_pool.proofs.FoldedLemmas.{negation-folded}
use Rattle.prv_pool.proofs.pool.Pool.not.Goals as goal

pub make-requires-clause-is_folded : goal.make-requires-clause-is_folded
make-requires-clause-is_folded c = ap is_folded c.negate-answer.ensures.value ∙ negation-folded _ (c.negate-answer.ensures.table.all_folded c.args.a c.requires)
