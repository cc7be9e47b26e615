use Rattle.std.proofs.Common.{arith}
use Rattle.prv_record.specs.Pairs.{opening}
use Rattle.prv_record.proofs.PairReading.{pair-found, pair-again, pair-wrong}
use Rattle.prv_record.proofs.pair.decode_pair.Goals as goal

pub overflow_sub-result : goal.overflow_sub-result
overflow_sub-result c =
    let e = rw c.in-Err-Bad.field-0-is at c.in-Err-Bad.ensures in
    (pair-wrong c.args.bytes.now (λ i. omega (arith, c.type_inv.bytes i)) c.in-Err-Bad.left e).1

pub returns-in-Ok-clause-found : goal.returns-in-Ok-clause-found
returns-in-Ok-clause-found c = pair-found c.args.bytes.now (λ i. omega (arith, c.type_inv.bytes i)) (opening c.in-Ok.pair) c.in-Ok.ensures

pub returns-in-Ok-clause-again : goal.returns-in-Ok-clause-again
returns-in-Ok-clause-again c = λ p h. pair-again c.args.bytes.now (λ i. omega (arith, c.type_inv.bytes i)) p (opening c.in-Ok.pair) h c.in-Ok.ensures

pub returns-in-Err-Bad-clause-bad : goal.returns-in-Err-Bad-clause-bad
returns-in-Err-Bad-clause-bad c =
    let e = rw c.in-Err-Bad.field-0-is at c.in-Err-Bad.ensures in
    (pair-wrong c.args.bytes.now (λ i. omega (arith, c.type_inv.bytes i)) c.in-Err-Bad.left e).0
