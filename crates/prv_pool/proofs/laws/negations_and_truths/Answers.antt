use Rattle.prv_pool.proofs.FoldLaws.{negation-value, truth-value}
use Rattle.prv_pool.proofs.laws.negations_and_truths.Goals as goal

pub returns-clause-negation : goal.returns-clause-negation
returns-clause-negation c = negation-value

pub returns-clause-truth : goal.returns-clause-truth
returns-clause-truth c = truth-value
