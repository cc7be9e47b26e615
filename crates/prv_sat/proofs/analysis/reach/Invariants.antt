use Rattle.std.proofs.Common.{◌≡◌, ◌≤◌, ◌⊎◌, true, take, length}
use Rattle.prv_cnf.specs.declared.literal.Lit.{Lit}
use Rattle.prv_cnf.specs.Literals.{has_literal}
use Rattle.prv_propagate.specs.Trails.{trues}
use Rattle.prv_sat.specs.Analyses.{IsLast}
use Rattle.prv_sat.proofs.analysis.reach.Given as goal

abbrev pub invariant-loop-other : goal.invariant-loop-other
invariant-loop-other l = record {
  inside : l.keep ≤ length l.trail.steps;
  others : (x : Lit) → has_literal (take l.other-index l.other-items) x ≡ true → has_literal l.marks.marked x ≡ true → (x ≡ l.lit) ⊎ (has_literal (trues (take l.keep l.trail.steps)) x ≡ true);
  last : IsLast l.trail.steps l.marks.marked l.lit l.keep;
}
