use Rattle.prv_bits.proofs.NumberLaws.{number-same, length-digits, number-digits}
use Rattle.prv_bits.proofs.numbers.one_list.Goals as goal

pub returns-clause-one : goal.returns-clause-one
returns-clause-one c = number-same

pub returns-clause-width : goal.returns-clause-width
returns-clause-width c = length-digits

pub returns-clause-value : goal.returns-clause-value
returns-clause-value c = number-digits
