use Rattle.std.proofs.Common.{◌<◌, ◌≤◌, length, get_or}
use Rattle.prv_propagate.proofs.trail.level_at.Given as goal

abbrev pub invariant-loop-level : goal.invariant-loop-level
invariant-loop-level l = record {
  inside : l.level ≤ length l.limits;
  next : l.level < length l.limits → l.place ≤ get_or l.limits l.level 0;
}

abbrev pub decreases-loop-level : goal.decreases-loop-level
decreases-loop-level l = l.level
