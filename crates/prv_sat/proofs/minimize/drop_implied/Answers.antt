use Rattle.std.proofs.Common.{◌≡◌, ◌∷◌, not, true, ◌&&◌, ◌||◌, reverse, sym, ap, ◌∙◌}
use Rattle.std.specs.List.{list_all}
use Rattle.prv_cnf.specs.declared.literal.Lit.{Lit}
use Rattle.prv_cnf.specs.Literals.{negate, same_literal, has_literal}
use Rattle.prv_check.specs.Lines.{known}
use Rattle.prv_propagate.specs.Trails.{step_at, IsDecision}
use Rattle.prv_propagate.specs.Reasons.{clause_of}
use Rattle.prv_sat.proofs.Analyzing.{reverse_push}
use Rattle.prv_sat.proofs.Minimizing.{dropped}
use Rattle.prv_sat.proofs.minimize.drop_implied.Goals as goal

pub returns-clause-derived : goal.returns-clause-derived
returns-clause-derived c =
    let cs = known c.args.cnf.now c.args.lines.now in
    let t = c.args.trail.now in
    let s = step_at t.steps c.args.place in
    let marked = c.args.marks.now.marked in
    let implied : IsDecision s → ⊥ = rw c.steps.ensures.value at c.if-step.false in
    let here : has_literal marked s.lit ≡ true = rw c.steps.ensures.value at (sym c.has.ensures ∙ c.if-not-has.false) in
    let all : list_all (λ x. same_literal s.lit x || has_literal marked (negate x)) (clause_of cs s.reason) ≡ true = rw (c.clause_at-lits.ensures, c.steps.ensures.value) at (sym c.are_marked.ensures ∙ c.if-not-are_marked.false) in
    let minus : (x : Lit) → has_literal c.unmark.new.self.marked x ≡ (has_literal marked x && not (same_literal x s.lit)) = rw c.steps.ensures.value at c.unmark.ensures.marked in
    let hints : reverse c.push.new.self.items ≡ s.reason ∷ reverse c.args.hints.now.items = ap reverse (rw c.steps.ensures.value at c.in_ok-push.ensures.items) ∙ reverse_push c.args.hints.now.items s.reason in
    rw hints (dropped cs t c.args.place marked c.unmark.new.self.marked (reverse c.args.hints.now.items) c.steps.ensures.assigned c.requires.justified c.requires.inside implied c.requires.derived here all minus)
