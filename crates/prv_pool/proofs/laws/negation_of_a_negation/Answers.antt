use Rattle.prv_pool.proofs.FoldedLemmas.{negated-twice}
use Rattle.prv_pool.proofs.laws.negation_of_a_negation.Goals as goal

pub returns : goal.returns
returns c = negated-twice
