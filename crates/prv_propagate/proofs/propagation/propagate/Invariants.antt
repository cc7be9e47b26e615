use Rattle.std.proofs.Common.{◌≡◌, ◌+◌, ◌-◌, ◌*◌, ◌≤◌, length}
use Rattle.prv_check.specs.Lines.{known}
use Rattle.prv_propagate.specs.Soundness.{IsSound, IsExtended, ArePropagated}
use Rattle.prv_propagate.proofs.propagation.propagate.Given as goal

abbrev pub invariant-loop-at : goal.invariant-loop-at
invariant-loop-at l = record {
  sound : IsSound (known l.cnf l.lines) l.trail l.watches;
  inside : l.at ≤ length l.trail.steps;
  before : ArePropagated (known l.cnf l.lines) l.watches.pairs l.trail.steps l.at;
  extended : IsExtended l.fn.trail.steps l.trail.steps;
  vars : l.trail.vars ≡ l.fn.trail.vars;
}

abbrev pub decreases-loop-at : goal.decreases-loop-at
decreases-loop-at l = 2 * l.trail.vars + 1 - l.at
