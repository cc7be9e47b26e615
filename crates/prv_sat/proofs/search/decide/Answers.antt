use Rattle.std.proofs.Common.{◌≡◌, ◌++◌, ◌∷◌, List, [], true, ap, ◌∙◌, refl}
use Rattle.std.proofs.lemmas.Bool.{or_right}
use Rattle.prv_cnf.specs.declared.literal.Lit.{Lit}
use Rattle.prv_cnf.specs.Literals.{same_literal, has_literal}
use Rattle.prv_cnf.proofs.Values.{same_literal_refl}
use Rattle.prv_propagate.specs.declared.trail.Step.{Step}
use Rattle.prv_propagate.specs.declared.trail.TheConstants.{NO_REASON}
use Rattle.prv_propagate.specs.Trails.{trues}
use Rattle.prv_propagate.specs.Soundness.{IsExtended}
use Rattle.prv_propagate.proofs.Signs.{has_literal-push}
use Rattle.prv_propagate.proofs.Stepping.{trues_push}
use Rattle.prv_propagate.proofs.Extending.{extended_push, extended_more, extended_true}
use Rattle.prv_sat.proofs.Searching.{decided}
use Rattle.prv_sat.proofs.search.decide.Goals as goal

pub spread-requires : goal.spread-requires
spread-requires c =
    let s : Step = record { lit = c.args.lit; reason = NO_REASON } in
    rw (c.in_ok-decide.ensures, c.steps.ensures.value) (decided c.args.cnf.now c.args.state.now.lines.items c.args.state.now.trail c.args.state.now.watches s c.requires.ready refl)

pub returns-clause-extended : goal.returns-clause-extended
returns-clause-extended c =
    let s : Step = record { lit = c.args.lit; reason = NO_REASON } in
    let old = c.args.state.now.trail.steps in
    let more : IsExtended (old ++ s ∷ []) c.spread.new.state.trail.steps = rw c.in_ok-decide.ensures at c.in_ok-conflict.ensures.extended in
    extended_more old (old ++ s ∷ []) c.spread.new.state.trail.steps (extended_push old s) more

pub returns-clause-decided : goal.returns-clause-decided
returns-clause-decided c =
    let s : Step = record { lit = c.args.lit; reason = NO_REASON } in
    let old = c.args.state.now.trail.steps in
    let more : IsExtended (old ++ s ∷ []) c.spread.new.state.trail.steps = rw c.in_ok-decide.ensures at c.in_ok-conflict.ensures.extended in
    let here : has_literal (trues (old ++ s ∷ [])) c.args.lit ≡ true = ap (λ (ls : List Lit). has_literal ls c.args.lit) (trues_push old s) ∙ has_literal-push (trues old) c.args.lit c.args.lit ∙ or_right (has_literal (trues old) c.args.lit) (same_literal c.args.lit c.args.lit) (same_literal_refl c.args.lit) in
    extended_true (old ++ s ∷ []) c.spread.new.state.trail.steps more c.args.lit here
