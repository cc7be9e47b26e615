use Rattle.prv_bits.proofs.OperatorLaws.{length-pick, word-pick}
use Rattle.prv_bits.proofs.operators.choices.Goals as goal

pub returns-clause-width : goal.returns-clause-width
returns-clause-width c = length-pick

pub returns-clause-value : goal.returns-clause-value
returns-clause-value c = word-pick
