use Rattle.std.proofs.Common.{arith}
use Rattle.prv_marks.proofs.SkeletonLemmas.{items_equal, ended_differ}
use Rattle.prv_marks.proofs.difference.first_difference.Goals as goal

pub returns-then-before-after-clause-none : goal.returns-then-before-after-clause-none
returns-then-before-after-clause-none c =
    items_equal c.args.before.now c.args.after.now (omega arith) (λ k below. c.loop-i.invariant k (omega arith))

pub returns-else-before-after-clause-found : goal.returns-else-before-after-clause-found
returns-else-before-after-clause-found c = record {
  differ = ended_differ c.args.before.now c.args.after.now c.min-shared.result (omega arith) (omega arith);
  equal_before = λ k below. c.loop-i.invariant k (omega arith);
}
