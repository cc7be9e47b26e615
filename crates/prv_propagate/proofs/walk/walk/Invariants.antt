use Rattle.std.proofs.Common.{◌≡◌}
use Rattle.prv_check.specs.Lines.{known}
use Rattle.prv_propagate.specs.Soundness.{IsExtended}
use Rattle.prv_propagate.specs.Walking.{IsWalk, false_by}
use Rattle.prv_propagate.proofs.walk.walk.Given as goal

abbrev pub invariant-loop-at : goal.invariant-loop-at
invariant-loop-at l = record {
  walk : IsWalk (known l.cnf l.lines) l.from l.trail l.watches l.at;
  extended : IsExtended l.fn.trail.steps l.trail.steps;
  vars : l.trail.vars ≡ l.fn.trail.vars;
  lit : l.lit ≡ false_by l.trail.steps l.from;
}

abbrev pub decreases-loop-at : goal.decreases-loop-at
decreases-loop-at l = l.at
