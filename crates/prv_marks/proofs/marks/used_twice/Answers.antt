use Rattle.std.proofs.Common.{arith}
use Rattle.prv_marks.proofs.MarkLemmas.{seen_none, seen_twice, seen_more, number_read}
use Rattle.prv_marks.proofs.marks.used_twice.Goals as goal

pub loop-i-init : goal.loop-i-init
loop-i-init c = seen_none c.args.marks.now

pub returns-then-seen-mark-clause-found : goal.returns-then-seen-mark-clause-found
returns-then-seen-mark-clause-found c =
    seen_twice c.args.marks.now c.loop-i.seen c.loop-i.i _ c.loop-i.invariant (number_read c.args.marks.now c.loop-i.i _ (omega arith)) c.if-seen-mark.true

pub loop-i-preserved : goal.loop-i-preserved
loop-i-preserved c =
    seen_more c.args.marks.now c.loop-i.seen c.loop-i.i _ c.loop-i.invariant (number_read c.args.marks.now c.loop-i.i _ (omega arith)) (omega arith) c.if-seen-mark.false
