use Rattle.prv_bits.proofs.OperatorLaws.{length-operate, word-operate, IsWord-total}
use Rattle.prv_bits.proofs.operators.values.Goals as goal

pub returns-clause-width : goal.returns-clause-width
returns-clause-width c = length-operate

pub returns-clause-value : goal.returns-clause-value
returns-clause-value c = word-operate

pub returns-clause-in_range : goal.returns-clause-in_range
returns-clause-in_range c = IsWord-total
