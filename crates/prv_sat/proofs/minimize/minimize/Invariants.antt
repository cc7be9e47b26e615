use Rattle.std.proofs.Common.{◌≡◌, ◌≤◌, true, reverse, vec_len}
use Rattle.prv_cnf.specs.Literals.{has_literal}
use Rattle.prv_check.specs.Lines.{known}
use Rattle.prv_propagate.specs.Trails.{trues}
use Rattle.prv_sat.specs.Analyses.{IsPartOf, IsDerived}
use Rattle.prv_sat.proofs.minimize.minimize.Given as goal

abbrev pub invariant-loop-at : goal.invariant-loop-at
invariant-loop-at l = record {
  inside : l.at ≤ vec_len l.places;
  marked : has_literal l.marks.marked l.lit ≡ true;
  fewer : IsPartOf l.marks.marked l.fn.marks.marked;
  derived : IsDerived (known l.cnf l.lines) (trues l.trail.steps) l.marks.marked l.marks.marked (reverse l.hints.items);
  vars : l.marks.vars ≡ l.fn.marks.vars;
}

abbrev pub decreases-loop-at : goal.decreases-loop-at
decreases-loop-at l = l.at
