use Rattle.std.proofs.Common.{arith}
use Rattle.prv_select.proofs.Placing.{placed-then, placed-else, placed-While, placed-Block, placed-Marked, placed-none, placed-next, placed-last}
use Rattle.prv_select.proofs.places.+places.Goals as goal

pub push_inside-returns-in-None-clause-added : goal.push_inside-returns-in-None-clause-added
push_inside-returns-in-None-clause-added t c =
    placed-then _ c.in-If.yes c.in-If.no c.in-If.test _ _ _ c.in-If.is c.in-None.is (rw c.get.ensures at c.in_ok-push-in-If.ensures.added)

pub push_inside-returns-in_ok-push-in-Some-clause-added : goal.push_inside-returns-in_ok-push-in-Some-clause-added
push_inside-returns-in_ok-push-in-Some-clause-added t c =
    placed-else _ c.in-If.yes c.in-Some.branch c.in-If.no c.in-If.test _ _ c.push.new.places _ c.in-If.is c.in-Some.is
    (rw c.get.ensures at c.in_ok-push-in-If.ensures.added) (rw c.get-in-Some.ensures at c.in_ok-push-in-Some.ensures.added)

pub push_inside-returns-in_ok-push-in-While-clause-added : goal.push_inside-returns-in_ok-push-in-While-clause-added
push_inside-returns-in_ok-push-in-While-clause-added t c =
    placed-While _ c.in-While.body c.in-While.test _ _ _ c.in-While.is (rw c.get-in-While.ensures at c.in_ok-push-in-While.ensures.added)

pub push_inside-returns-in_ok-push_all-in-Block-clause-added : goal.push_inside-returns-in_ok-push_all-in-Block-clause-added
push_inside-returns-in_ok-push_all-in-Block-clause-added t c =
    placed-Block _ c.in-Block.all _ _ _ c.in-Block.is (rw c.as_slice.ensures at c.in_ok-push_all-in-Block.ensures.added)

pub push_inside-returns-in_ok-push-in-Marked-clause-added : goal.push_inside-returns-in_ok-push-in-Marked-clause-added
push_inside-returns-in_ok-push-in-Marked-clause-added t c =
    placed-Marked _ c.in-Marked.body c.in-Marked.mark _ _ _ c.in-Marked.is (rw c.get-in-Marked.ensures at c.in_ok-push-in-Marked.ensures.added)

pub push_inside-returns-in_default : goal.push_inside-returns-in_default
push_inside-returns-in_default t c =
    record { added = placed-none c.args.stmt.now c.args.inner c.args.places.now c.in_default.not-If c.in_default.not-While c.in_default.not-Block c.in_default.not-Marked; grows = omega arith }

pub push_all-loop-stmt-preserved : goal.push_all-loop-stmt-preserved
push_all-loop-stmt-preserved t c = record {
  made = placed-next c.args.all.now c.loop-stmt.stmt-index c.stmt-item.result c.args.outer _ _ _ c.loop-stmt-test.true c.stmt-item.is c.in_ok-push.ensures.added c.loop-stmt.invariant.made;
  grows = omega (arith, c.push.ensures.grows, c.loop-stmt.invariant.grows);
}

pub push_all-returns-clause-added : goal.push_all-returns-clause-added
push_all-returns-clause-added t c = placed-last c.args.all.now c.loop-stmt.stmt-index c.args.outer _ _ c.loop-stmt-test.false c.loop-stmt.invariant.made
