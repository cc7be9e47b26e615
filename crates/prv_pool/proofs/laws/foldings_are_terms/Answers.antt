use Rattle.prv_pool.proofs.FoldLaws.{folded-term, pick-term, negation-term, truth-term}
use Rattle.prv_pool.proofs.laws.foldings_are_terms.Goals as goal

pub returns-clause-operators : goal.returns-clause-operators
returns-clause-operators c = folded-term

pub returns-clause-choices : goal.returns-clause-choices
returns-clause-choices c = pick-term

pub returns-clause-negations : goal.returns-clause-negations
returns-clause-negations c = negation-term

pub returns-clause-truths : goal.returns-clause-truths
returns-clause-truths c = truth-term
