use Rattle.prv_select.specs.MarkSets.{has_mark}
use Rattle.prv_select.proofs.Steps.{rising-none, rising-next}
use Rattle.prv_select.proofs.choice.marks_below.Goals as goal

pub loop-mark-init : goal.loop-mark-init
loop-mark-init c = rising-none (λ m. has_mark c.args.marks m) _ c.new-rising.ensures

pub loop-mark-preserved : goal.loop-mark-preserved
loop-mark-preserved c = rising-next (λ m. has_mark c.args.marks m) c.loop-mark.mark _ _ c.in_ok-push_mark.ensures c.loop-mark.invariant
