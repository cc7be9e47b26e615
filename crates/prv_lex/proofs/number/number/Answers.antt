use Rattle.std.proofs.Common.{arith}
use Rattle.prv_lex.proofs.NumberLemmas.{value_more, too_great}
use Rattle.prv_lex.proofs.number.number.Goals as goal

-- the digits so far are already worth more than the greatest number
pub returns-then-value-gt-GREATEST : goal.returns-then-value-gt-GREATEST
returns-then-value-gt-GREATEST c =
    too_great c.args.digits.now c.loop-digit.digit-index c.loop-digit.value c.loop-digit-test.true
    (c.requires.all c.loop-digit.digit-index 0 c.loop-digit-test.true) c.loop-digit.invariant.so_far (omega arith)

pub loop-digit-preserved : goal.loop-digit-preserved
loop-digit-preserved c =
    let more = value_more c.args.digits.now c.loop-digit.digit-index c.loop-digit-test.true (c.requires.all c.loop-digit.digit-index 0 c.loop-digit-test.true) in
    record { so_far = omega (arith, more); small = omega arith }
