use Rattle.std.proofs.Common.{◌∙◌, ap, sym}
use Rattle.prv_bits.specs.Orders.{differ}
use Rattle.prv_bits.proofs.OrderLaws.{below-is, differ_itself, differ-false}
use Rattle.prv_bits.proofs.SignedLaws.{signed_below-is}
use Rattle.prv_bits.proofs.orders.comparisons.Goals as goal

pub returns-clause-numbers : goal.returns-clause-numbers
returns-clause-numbers c = below-is

pub returns-clause-words : goal.returns-clause-words
returns-clause-words c = signed_below-is

pub returns-clause-equal : goal.returns-clause-equal
returns-clause-equal c = λ xs ys h. (differ-false xs ys h, λ e. ap (differ xs) (sym e) ∙ differ_itself xs)
