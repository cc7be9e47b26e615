use Rattle.prv_pool.proofs.FoldedLemmas.{folding-folded, picking-folded, negation-folded, truth-folded}
use Rattle.prv_pool.proofs.laws.folding_gives_folded_terms.Goals as goal

pub returns-clause-op : goal.returns-clause-op
returns-clause-op c = folding-folded

pub returns-clause-pick : goal.returns-clause-pick
returns-clause-pick c = picking-folded

pub returns-clause-negation : goal.returns-clause-negation
returns-clause-negation c = negation-folded

pub returns-clause-truth : goal.returns-clause-truth
returns-clause-truth c = truth-folded
