use Rattle.std.proofs.Common.{arith}
use Rattle.prv_record.proofs.RecordReading.{record-found, record-again, record-wrong}
use Rattle.prv_record.proofs.payload.decode.Goals as goal

pub overflow_sub-result : goal.overflow_sub-result
overflow_sub-result c =
    let e = rw c.in-Err-Bad.field-0-is at c.in-Err-Bad.ensures in
    (record-wrong c.args.form c.args.bytes.now (λ i. omega (arith, c.type_inv.bytes i)) c.in-Err-Bad.left e).1

pub returns-in-Ok-clause-found : goal.returns-in-Ok-clause-found
returns-in-Ok-clause-found c = record-found c.args.form c.args.bytes.now (λ i. omega (arith, c.type_inv.bytes i)) c.in-Ok.raw c.in-Ok.ensures

pub returns-in-Ok-clause-again : goal.returns-in-Ok-clause-again
returns-in-Ok-clause-again c = λ raw h. record-again c.args.form c.args.bytes.now (λ i. omega (arith, c.type_inv.bytes i)) raw c.in-Ok.raw h c.in-Ok.ensures

pub returns-in-Err-Bad-clause-bad : goal.returns-in-Err-Bad-clause-bad
returns-in-Err-Bad-clause-bad c =
    let e = rw c.in-Err-Bad.field-0-is at c.in-Err-Bad.ensures in
    (record-wrong c.args.form c.args.bytes.now (λ i. omega (arith, c.type_inv.bytes i)) c.in-Err-Bad.left e).0
