use Rattle.std.proofs.Common.{◌++◌, nat_eq}
use Rattle.std.specs.List.{list_any}
use Rattle.prv_select.proofs.Steps.{rising-none, rising-next}
use Rattle.prv_settle.proofs.partition.marks_of.Goals as goal

pub loop-mark-init : goal.loop-mark-init
loop-mark-init c = rising-none (λ m. list_any (nat_eq m) (c.args.before.now ++ c.args.after.now)) _ c.new-marks.ensures.items

pub loop-mark-preserved : goal.loop-mark-preserved
loop-mark-preserved c = rising-next (λ m. list_any (nat_eq m) (c.args.before.now ++ c.args.after.now)) c.loop-mark.mark _ _ c.in_ok-push_mark.ensures c.loop-mark.invariant
