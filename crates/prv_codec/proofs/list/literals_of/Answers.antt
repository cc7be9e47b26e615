use Rattle.std.proofs.lemmas.Result.{err_from_is_err_and}
use Rattle.prv_codec.specs.Reading.{literal_at, items_at}
use Rattle.prv_codec.proofs.Loops.{goes_on, ends, is_done}
use Rattle.prv_codec.proofs.list.literals_of.Goals as goal

pub returns-in_err-item : goal.returns-in_err-item
returns-in_err-item c =
    let p = err_from_is_err_and c.from_residual.result c.from_residual.ensures.1 in
    rw (p.1, p.2) (ends (literal_at c.args.form) c.in_err-item.field-0.0 c.loop.lits.items c.args.count c.loop.counter c.loop.rest.now (items_at (literal_at c.args.form) c.args.count c.args.bytes.now) c.loop-test.true c.in_err-item.ensures c.loop.invariant)

pub loop-preserved : goal.loop-preserved
loop-preserved c =
    let item = c.in_ok-item.item in
    rw c.in_ok-push.ensures.items (goes_on (literal_at c.args.form) c.loop.lits.items c.args.count c.loop.counter c.loop.rest.now item c.in_ok-item.after.now (items_at (literal_at c.args.form) c.args.count c.args.bytes.now) c.loop-test.true c.in_ok-item.ensures c.loop.invariant)

pub returns : goal.returns
returns c = is_done (literal_at c.args.form) c.loop.lits.items c.args.count c.loop.counter c.loop.rest.now (items_at (literal_at c.args.form) c.args.count c.args.bytes.now) c.loop-test.false c.loop.invariant
