use Rattle.std.proofs.Common.{◌≡◌, ◌<◌, ℕ, ◌+◌, ◌-◌, false, take, length, reverse, sym, subst, ◌∙◌, arith}
use Rattle.prv_cnf.specs.Literals.{has_literal}
use Rattle.prv_check.specs.Lines.{known}
use Rattle.prv_propagate.specs.Trails.{trues, step_at}
use Rattle.prv_sat.specs.Analyses.{IsDerived}
use Rattle.prv_sat.proofs.Analyzing.{passed}
use Rattle.prv_sat.proofs.analysis.analyze.Goals as goal

pub loop-at-preserved-then-not-has : goal.loop-at-preserved-then-not-has
loop-at-preserved-then-not-has c =
    let cs = known c.args.cnf.now c.args.lines.now in
    let steps = c.args.trail.now.steps in
    let at : ℕ = c.loop-at.at - 1 in
    let e : c.loop-at.at ≡ at + 1 = omega arith in
    let inside : at < length steps = omega (arith, c.loop-at.invariant.inside) in
    let derived : IsDerived cs (trues steps) (trues (take (at + 1) steps)) c.loop-at.marks.marked (reverse c.loop-at.hints.items) = subst (λ (n : ℕ). IsDerived cs (trues steps) (trues (take n steps)) c.loop-at.marks.marked (reverse c.loop-at.hints.items)) e c.loop-at.invariant.derived in
    let unmarked : has_literal c.loop-at.marks.marked (step_at steps at).lit ≡ false = rw c.steps.ensures.value at (sym c.has.ensures ∙ c.if-not-has.true) in
    record {
      inside = omega (arith, inside);
      derived = passed cs steps at c.loop-at.marks.marked (reverse c.loop-at.hints.items) inside derived unmarked;
      vars = c.loop-at.invariant.vars;
    }
