use Rattle.std.proofs.Common.{◌≡◌, ℕ, ◌<◌, ◌≤◌, true}
use Rattle.prv_cnf.specs.Literals.{has_literal}
use Rattle.prv_propagate.specs.Trails.{trues}
use Rattle.prv_propagate.specs.Watching.{watch_at}
use Rattle.prv_propagate.proofs.walk.next_open.Given as goal

abbrev pub invariant-loop-at : goal.invariant-loop-at
invariant-loop-at l = record {
  bound : l.at ≤ l.below;
  skipped : (j : ℕ) → l.at ≤ j → j < l.below → has_literal (trues l.trail.steps) (watch_at l.list j).blocker ≡ true;
}

abbrev pub decreases-loop-at : goal.decreases-loop-at
decreases-loop-at l = l.at
