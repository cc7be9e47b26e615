use Rattle.prv_model.proofs.NumberLaws.{inside-none}
use Rattle.prv_model.proofs.TextOrder.{added-While, added-Marked, added-Block, added-then, added-else, added-none, added-own}
use Rattle.prv_model.specs.Programs.{stmt_count}
use Rattle.prv_run.proofs.SizeLemmas.{size-is}
use Rattle.prv_run.proofs.sizes.+sizes.Goals as goal

pub push_inside-returns-in-None : goal.push_inside-returns-in-None
push_inside-returns-in-None t c = added-then (λ s. stmt_count s) _ c.in-If.yes c.in-If.no c.in-If.test _ _ c.in-If.is c.in-None.is (rw c.get.ensures at c.in_ok-push_sizes-in-If.ensures)

pub push_inside-returns-in_ok-push_sizes-in-Some : goal.push_inside-returns-in_ok-push_sizes-in-Some
push_inside-returns-in_ok-push_sizes-in-Some t c =
    added-else (λ s. stmt_count s) _ c.in-If.yes c.in-Some.branch c.in-If.no c.in-If.test _ c.push_sizes.new.sizes _ c.in-If.is c.in-Some.is
    (rw c.get.ensures at c.in_ok-push_sizes-in-If.ensures) (rw c.get-in-Some.ensures at c.in_ok-push_sizes-in-Some.ensures)

pub push_inside-returns-in_ok-push_sizes-in-While : goal.push_inside-returns-in_ok-push_sizes-in-While
push_inside-returns-in_ok-push_sizes-in-While t c =
    added-While (λ s. stmt_count s) _ c.in-While.body c.in-While.test _ _ c.in-While.is (rw c.get-in-While.ensures at c.in_ok-push_sizes-in-While.ensures)

pub push_inside-returns-in_ok-push_all-in-Block : goal.push_inside-returns-in_ok-push_all-in-Block
push_inside-returns-in_ok-push_all-in-Block t c =
    added-Block (λ s. stmt_count s) _ c.in-Block.all _ _ c.in-Block.is (rw c.as_slice.ensures at c.in_ok-push_all-in-Block.ensures)

pub push_inside-returns-in_ok-push_sizes-in-Marked : goal.push_inside-returns-in_ok-push_sizes-in-Marked
push_inside-returns-in_ok-push_sizes-in-Marked t c =
    added-Marked (λ s. stmt_count s) _ c.in-Marked.body c.in-Marked.mark _ _ c.in-Marked.is (rw c.get-in-Marked.ensures at c.in_ok-push_sizes-in-Marked.ensures)

pub push_inside-returns-in_default : goal.push_inside-returns-in_default
push_inside-returns-in_default t c =
    added-none (λ s. stmt_count s) c.args.stmt.now _ (inside-none c.args.stmt.now c.in_default.not-If c.in_default.not-While c.in_default.not-Block c.in_default.not-Marked)

pub push_sizes-returns : goal.push_sizes-returns
push_sizes-returns t c =
    added-own (λ s. stmt_count s) c.args.stmt.now c.args.sizes.now c.push.new.self c.push_inside.new.sizes c.set.new.self 0 _
    c.in_ok-push.ensures.ok c.in_ok-push_inside.ensures (rw (c.len.ensures, c.len-place.ensures) at c.set.ensures)
    (size-is c.args.stmt.now c.args.sizes.now c.push.new.self c.push_inside.new.sizes c.in_ok-push.ensures.ok c.in_ok-push_inside.ensures)
