use Rattle.std.proofs.Common.{◌≡◌, ◌∷◌, Some, reverse, not, ◌&&◌, ap, ◌∙◌}
use Rattle.prv_cnf.specs.declared.literal.Lit.{Lit}
use Rattle.prv_cnf.specs.Literals.{same_literal, has_literal}
use Rattle.prv_check.specs.Lines.{known}
use Rattle.prv_propagate.specs.Trails.{step_at}
use Rattle.prv_propagate.specs.Reasons.{clause_of}
use Rattle.prv_sat.specs.Marking.{AreMarkedToo}
use Rattle.prv_sat.proofs.Analyzing.{resolved, others_false, reverse_push}
use Rattle.prv_sat.proofs.analysis.resolve.Goals as goal

pub mark_negations-requires-clause-others : goal.mark_negations-requires-clause-others
mark_negations-requires-clause-others c =
    let cs = known c.args.cnf.now c.args.lines.now in
    let steps = c.args.trail.now.steps in
    rw (c.clause_at-lits.ensures, c.steps.ensures.value) (others_false cs steps c.args.at (c.requires.justified c.args.at c.requires.inside) c.requires.implied)

pub returns-clause-derived : goal.returns-clause-derived
returns-clause-derived c =
    let cs = known c.args.cnf.now c.args.lines.now in
    let t = c.args.trail.now in
    let s = step_at t.steps c.args.at in
    let hints : reverse c.push.new.self.items ≡ s.reason ∷ reverse c.args.hints.now.items = ap reverse (rw c.steps.ensures.value at c.in_ok-push.ensures.items) ∙ reverse_push c.args.hints.now.items s.reason in
    let minus : (x : Lit) → has_literal c.unmark.new.self.marked x ≡ (has_literal c.args.marks.now.marked x && not (same_literal x s.lit)) = rw c.steps.ensures.value at c.unmark.ensures.marked in
    let plus : AreMarkedToo c.unmark.new.self.marked (clause_of cs s.reason) (Some s.lit) c.mark_negations.new.marks.marked = rw (c.clause_at-lits.ensures, c.steps.ensures.value) at c.in_ok-more.ensures.marked in
    rw hints (resolved cs t c.args.at c.args.marks.now.marked c.unmark.new.self.marked c.mark_negations.new.marks.marked (reverse c.args.hints.now.items) c.steps.ensures.assigned c.requires.justified c.requires.inside c.requires.implied c.requires.derived c.requires.marked minus plus)
