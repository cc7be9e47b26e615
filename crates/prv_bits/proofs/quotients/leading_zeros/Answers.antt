use Rattle.prv_bits.proofs.DivisionLaws.{quotient-zeros, rest-zeros, divided-zeros, left_over-zeros}
use Rattle.prv_bits.proofs.quotients.leading_zeros.Goals as goal

pub returns-clause-quotient : goal.returns-clause-quotient
returns-clause-quotient c = quotient-zeros

pub returns-clause-rest : goal.returns-clause-rest
returns-clause-rest c = rest-zeros

pub returns-clause-divided : goal.returns-clause-divided
returns-clause-divided c = divided-zeros

pub returns-clause-left_over : goal.returns-clause-left_over
returns-clause-left_over c = left_over-zeros
