use Rattle.prv_bits.proofs.SumLaws.{number-add, subtract-is, reaches-is, exact-subtract}
use Rattle.prv_bits.proofs.sums.adder.Goals as goal

pub returns-clause-sum : goal.returns-clause-sum
returns-clause-sum c = number-add

pub returns-clause-difference : goal.returns-clause-difference
returns-clause-difference c = subtract-is

pub returns-clause-at_most : goal.returns-clause-at_most
returns-clause-at_most c = reaches-is

pub returns-clause-exact : goal.returns-clause-exact
returns-clause-exact c = exact-subtract
