use Rattle.prv_pool.proofs.FoldLaws.{folded-value, pick-value}
use Rattle.prv_pool.proofs.laws.folding_keeps_values.Goals as goal

pub returns-clause-operators : goal.returns-clause-operators
returns-clause-operators c = folded-value

pub returns-clause-choices : goal.returns-clause-choices
returns-clause-choices c = pick-value
