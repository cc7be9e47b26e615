use Rattle.prv_bits.proofs.SumLaws.{kept, number-negated}
use Rattle.prv_bits.proofs.SignedLaws.{magnitude-is}
use Rattle.prv_bits.proofs.sums.negatives.Goals as goal

pub returns-clause-kept : goal.returns-clause-kept
returns-clause-kept c = kept

pub returns-clause-negated : goal.returns-clause-negated
returns-clause-negated c = number-negated

pub returns-clause-magnitude : goal.returns-clause-magnitude
returns-clause-magnitude c = magnitude-is
