use Rattle.std.proofs.Common.{◌≡◌, ℕ, ◌++◌, ◌∷◌, [], List, reverse, ap, ◌∙◌}
use Rattle.prv_cnf.specs.declared.literal.Lit.{Lit}
use Rattle.prv_cnf.specs.Literals.{negate, has_literal}
use Rattle.prv_check.specs.Lines.{known}
use Rattle.prv_propagate.specs.Trails.{trues}
use Rattle.prv_propagate.specs.Reasons.{clause_of}
use Rattle.prv_sat.proofs.Deriving.{derived_none}
use Rattle.prv_sat.proofs.Analyzing.{marked_alone}
use Rattle.prv_sat.proofs.analysis.begin.Goals as goal

pub returns-clause-derived : goal.returns-clause-derived
returns-clause-derived c =
    let cs = known c.args.cnf.now c.args.lines.now in
    let steps = c.args.trail.now.steps in
    let marked = c.mark_negations.new.marks.marked in
    let hints : reverse c.push.new.self.items ≡ c.args.conflict ∷ [] = ap reverse (c.in_ok-push.ensures.items ∙ ap (λ (hs : List ℕ). hs ++ c.args.conflict ∷ []) c.requires.hints) in
    let is : (x : Lit) → has_literal marked x ≡ has_literal (clause_of cs c.args.conflict) (negate x) = λ x. marked_alone c.args.marks.now.marked c.clause_at-lits.result.now marked (clause_of cs c.args.conflict) c.requires.marked c.clause_at-lits.ensures c.in_ok-more.ensures.marked x in
    rw hints (derived_none cs (trues steps) marked c.args.conflict c.steps.ensures.assigned.consistent c.requires.conflict.0 c.requires.conflict.1 is)
