use Rattle.std.proofs.Common.{rules, ◌≡◌, ◌+◌, ◌∷◌, drop, get_or, pos, ap, sym, ◌∙◌, FitsSigned}
use Rattle.prv_model.specs.declared.term.Term.{Term}
use Rattle.std.proofs.lemmas.List.{drop_all}
use Rattle.std.proofs.lemmas.Int.{to_z-of_z}
use Rattle.std.specs.Int.{w32}
use Rattle.prv_run.specs.Points.{equals, literals}
use Rattle.prv_run.proofs.PointLists.{literals-drop, one-more, all-made}
use Rattle.prv_run.proofs.points.literals.Goals as goal

pub loop-k-preserved : goal.loop-k-preserved
loop-k-preserved c =
    let x = c.args.words.now in
    let k = c.loop-k.k in
    let fits : FitsSigned w32 (get_or x k (pos 0)) = search rules in
    let term : c.in_ok-equals.field-0 ≡ equals k (get_or x k (pos 0)) = c.in_ok-equals.ensures ∙ ap (equals k) (to_z-of_z w32 _ fits) in
    one-more c.loop-k.terms _ _ _ _ _ c.in_ok-push.ensures.ok (literals-drop x k c.loop-k-test.true ∙ ap (λ (t : Term). t ∷ literals (k + 1) (drop (k + 1) x)) (sym term)) c.loop-k.invariant

pub returns : goal.returns
returns c = all-made _ _ _ (ap (literals c.loop-k.k) (drop_all c.loop-k.k c.args.words.now c.loop-k-test.false)) c.loop-k.invariant
