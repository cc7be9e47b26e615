-- A marked literal that the other marked literals imply.
use Rattle.std.proofs.Common.{◌≡◌, ℕ, ◌<◌, true, false, not, ◌&&◌, ◌||◌, List, ◌∷◌, length, take, sym, ap, inl, inr, ◌∙◌}
use Rattle.std.specs.List.{list_all}
use Rattle.std.proofs.lemmas.Bool.{or_cases, true≢false, and_parts, and_from, and_right, false_from_ne_true, not_from_false, not_from_true}
use Rattle.prv_cnf.specs.declared.literal.Lit.{Lit}
use Rattle.prv_cnf.specs.Literals.{negate, same_literal, has_literal}
use Rattle.prv_cnf.proofs.Values.{same_literal-eq, same_literal_refl, all-has_literal}
use Rattle.prv_check.specs.Propagation.{is_false}
use Rattle.prv_propagate.specs.Trails.{Trailing, trues, step_at, IsDecision, IsAssignment}
use Rattle.prv_propagate.specs.Reasons.{clause_of, are_others_false, AreJustified}
use Rattle.prv_sat.specs.Analyses.{IsPartOf, IsDerived}
use Rattle.prv_sat.proofs.Deriving.{derived_step}
use Rattle.prv_sat.proofs.Analyzing.{reason_of}

-- the mark of a literal other than the one that goes stays
pub mark_stays : (marked after : List Lit) (m x : Lit) → ((y : Lit) → has_literal after y ≡ (has_literal marked y && not (same_literal y m))) → has_literal marked x ≡ true → same_literal x m ≡ false → has_literal after x ≡ true
mark_stays marked after m x minus h ne = minus x ∙ and_from (has_literal marked x) (not (same_literal x m)) h (not_from_false (same_literal x m) ne)

pub marks_fewer : (marked after : List Lit) (m : Lit) → ((y : Lit) → has_literal after y ≡ (has_literal marked y && not (same_literal y m))) → IsPartOf after marked
marks_fewer marked after m minus x h = (and_parts (has_literal marked x) (not (same_literal x m)) (sym (minus x) ∙ h)).0

pub dropped : (cs : List (List Lit)) (t : Trailing) (at : ℕ) (marked after : List Lit) (hs : List ℕ) → IsAssignment t → AreJustified cs t.steps → at < length t.steps → (IsDecision (step_at t.steps at) → ⊥) → IsDerived cs (trues t.steps) marked marked hs → has_literal marked (step_at t.steps at).lit ≡ true → list_all (λ x. same_literal (step_at t.steps at).lit x || has_literal marked (negate x)) (clause_of cs (step_at t.steps at).reason) ≡ true → ((x : Lit) → has_literal after x ≡ (has_literal marked x && not (same_literal x (step_at t.steps at).lit))) → IsDerived cs (trues t.steps) after after ((step_at t.steps at).reason ∷ hs)
dropped cs t at marked after hs assigned justified inside implied d here all minus =
    let s = step_at t.steps at in
    let m = s.lit in
    let c = clause_of cs s.reason in
    let by = reason_of cs t.steps at (justified at inside) implied in
    let parts = and_parts (has_literal c m) (are_others_false (trues (take at t.steps)) c m) by.1 in
    let fewer = marks_fewer marked after m minus in
    derived_step cs (trues t.steps) marked after marked after hs s.reason m d assigned.consistent by.0 here parts.0
    (λ y h ne. elim (or_cases (same_literal m y) (has_literal marked (negate y)) (all-has_literal (λ x. same_literal m x || has_literal marked (negate x)) c y all h)) [
      | inl same ↦ absurd (true≢false (sym same ∙ ne))
      | inr marked_one ↦ mark_stays marked after m (negate y) minus marked_one (false_from_ne_true (same_literal (negate y) m) (λ same.
          elim (or_cases (same_literal m y) (is_false (trues (take at t.steps)) y) (all-has_literal (λ x. same_literal m x || is_false (trues (take at t.steps)) x) c y parts.1 h)) [
            | inl one ↦ true≢false (sym one ∙ ne)
            | inr early ↦ true≢false (sym early ∙ ap (λ (x : Lit). has_literal (trues (take at t.steps)) x) (same_literal-eq (negate y) m same) ∙ assigned.once at inside)
          ]))
    ])
    (λ x h ne. mark_stays marked after m x minus h ne)
    (λ x h. inl (fewer x h))
    (λ x h. h)
    fewer
    (minus m ∙ and_right (has_literal marked m) (not (same_literal m m)) (not_from_true (same_literal m m) (same_literal_refl m)))
