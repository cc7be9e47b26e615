use Rattle.prv_bits.proofs.DivisionLaws.{divides, one-quotient, one-rest, divided-is, left_over-is}
use Rattle.prv_bits.proofs.quotients.division.Goals as goal

pub returns-clause-whole : goal.returns-clause-whole
returns-clause-whole c = λ d r xs h. (divides d r xs h).0

pub returns-clause-less : goal.returns-clause-less
returns-clause-less c = λ d r xs h. (divides d r xs h).1

pub returns-clause-one_quotient : goal.returns-clause-one_quotient
returns-clause-one_quotient c = one-quotient

pub returns-clause-one_rest : goal.returns-clause-one_rest
returns-clause-one_rest c = one-rest

pub returns-clause-divided : goal.returns-clause-divided
returns-clause-divided c = divided-is

pub returns-clause-left_over : goal.returns-clause-left_over
returns-clause-left_over c = left_over-is
