use Rattle.std.proofs.Common.{◌≡◌, ◌≤◌, take, length, reverse}
use Rattle.prv_check.specs.Lines.{known}
use Rattle.prv_propagate.specs.Trails.{trues}
use Rattle.prv_sat.specs.Analyses.{IsDerived}
use Rattle.prv_sat.proofs.analysis.analyze.Given as goal

abbrev pub invariant-loop-at : goal.invariant-loop-at
invariant-loop-at l = record {
  inside : l.at ≤ length l.trail.steps;
  derived : IsDerived (known l.cnf l.lines) (trues l.trail.steps) (trues (take l.at l.trail.steps)) l.marks.marked (reverse l.hints.items);
  vars : l.marks.vars ≡ l.fn.marks.vars;
}

abbrev pub decreases-loop-at : goal.decreases-loop-at
decreases-loop-at l = l.at
