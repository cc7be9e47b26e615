-- Decisions, and what a search ends with.
use Rattle.std.proofs.Common.{◌≡◌, ℕ, suc, ◌+◌, ◌-◌, ◌<◌, ◌≤◌, Bool, true, false, not, List, [], ◌∷◌, ◌++◌, ℤ, pos, negsuc, unsigned_abs, length, take, map, get_or, min, Option, None, Some, sym, ap, subst, inl, inr, ◌∙◌, add-one, arith}
use Rattle.std.specs.List.{list_all, list_any}
use Rattle.std.specs.Option.{IfNone}
use Rattle.std.proofs.lemmas.Bool.{cases_lt, or_cases, true≢false, or_right, or_left, false_from_ne_true}
use Rattle.std.proofs.lemmas.List.{append-nil, take_all, take-take, take-append-le, length_push, length-take-le, get_or-take, get_or_append_left, length-append}
use Rattle.prv_cnf.specs.declared.literal.Lit.{Lit}
use Rattle.prv_cnf.specs.Literals.{negate, same_literal, has_literal, signed_value, is_literal_true}
use Rattle.prv_cnf.specs.Formulas.{Formula}
use Rattle.prv_cnf.specs.Models.{IsModel, is_clause_true, values_of}
use Rattle.prv_cnf.proofs.Values.{same_literal-eq, negate-negate, all-has_literal}
use Rattle.prv_check.specs.LogLines.{LogLine}
use Rattle.prv_check.specs.Propagation.{is_false}
use Rattle.prv_check.specs.Lines.{known, is_within}
use Rattle.prv_propagate.specs.declared.trail.Step.{Step}
use Rattle.prv_propagate.specs.declared.watches.Pair.{Pair}
use Rattle.prv_propagate.specs.Trails.{Trailing, trues, step_at, IsDecision, IsAssignment, IsCut}
use Rattle.prv_propagate.specs.Reasons.{clause_of, is_satisfied, is_falsified, are_others_false, IsJustified}
use Rattle.prv_propagate.specs.Guards.{pair_of, is_guarded, IsBased}
use Rattle.prv_propagate.specs.Watching.{Watching}
use Rattle.prv_propagate.specs.Soundness.{IsSound, ArePropagated, IsExtended}
use Rattle.prv_propagate.specs.Loading.{IsAsserting}
use Rattle.prv_propagate.proofs.Stepping.{EachStep-push, EachStep-take}
use Rattle.prv_propagate.proofs.Tabling.{within_parts}
use Rattle.prv_propagate.proofs.Listing.{all_from_places}
use Rattle.prv_propagate.proofs.Guarding.{IsWithin, satisfied_by, satisfied_from, satisfied_later, guarded_cases, guarded_later, guarded_satisfied, guarded_free, free_parts, free_from, unfalse_before, pair_parts}
use Rattle.prv_propagate.proofs.Walking.{within_push, within_take}
use Rattle.prv_propagate.proofs.Extending.{extended_true}
use Rattle.prv_sat.specs.Analyses.{AreOpen}
use Rattle.prv_sat.specs.Conclusions.{IsLearntClause}
use Rattle.prv_sat.specs.States.{IsState, IsReady}
use Rattle.prv_sat.specs.Searches.{AreSatisfied, AreValues}

-- a literal is decided where all was propagated
pub decided : (f : Formula) (lines : List LogLine) (t : Trailing) (w : Watching) (s : Step) → IsReady f lines t w (length t.steps) → IsDecision s → IsReady f lines (record t { steps = t.steps ++ s ∷ [] }) w (length t.steps)
decided f lines t w s r dec =
    let cs = known f lines in
    let sound = r.state.sound in
    let whole : take (length t.steps) t.steps ≡ t.steps = take_all (length t.steps) t.steps (omega arith) in
    let base : IsBased cs w.pairs t.steps s = λ _. subst (λ (ss : List Step). (k : ℕ) → k < length cs → is_guarded (trues ss) (trues t.steps) (clause_of cs k) (pair_of w.pairs k) ≡ true) whole r.propagated in
    let front : take (length t.steps) (t.steps ++ s ∷ []) ≡ take (length t.steps) t.steps = take-append-le (length t.steps) t.steps (s ∷ []) (omega arith) in
    record {
      state = record {
        sound = record {
          within = sound.within;
          few = sound.few;
          places = sound.places;
          watched = sound.watched;
          justified = EachStep-push (IsJustified cs) t.steps s sound.justified (inl dec);
          based = EachStep-push (IsBased cs w.pairs) t.steps s sound.based base;
        };
        vars = r.state.vars;
      };
      inside = omega (arith, length_push t.steps s);
      propagated = λ k inside. rw front (guarded_later (trues (take (length t.steps) t.steps)) (trues t.steps) (trues (t.steps ++ s ∷ [])) (clause_of cs k) (pair_of w.pairs k) (within_push t.steps s) (r.propagated k inside));
    }

-- each decision was taken where each clause was open
pub open_from : (cs : List (List Lit)) (t : Trailing) (w : Watching) → IsSound cs t w → AreOpen cs t.steps
open_from cs t w sound i inside dec k known =
    elim (guarded_cases (trues (take i t.steps)) (trues (take i t.steps)) (clause_of cs k) (pair_of w.pairs k) (sound.based i inside dec k known)) [
      | inl satisfied ↦ inl satisfied
      | inr free ↦ let parts = pair_parts (clause_of cs k) (pair_of w.pairs k) (sound.watched.pairs k known) in inr (pair_of w.pairs k, parts.0, parts.1, free)
    ]

-- a clause of the formula is the same among the clauses and lines
pub formula_clause : (f : Formula) (lines : List LogLine) (k : ℕ) → k < length f.clauses → clause_of (known f lines) k ≡ clause_of (known f []) k
formula_clause f lines k inside = get_or_append_left f.clauses (map (λ (s : LogLine). s.clause) lines) [] k inside ∙ sym (get_or_append_left f.clauses [] [] k inside)

pub formula_inside : (f : Formula) (lines : List LogLine) (k : ℕ) → k < length f.clauses → k < length (known f lines)
formula_inside f lines k inside = omega (arith, length-append f.clauses (map (λ (s : LogLine). s.clause) lines))

-- where all was propagated no clause is false
pub not_falsified : (cs : List (List Lit)) (t : Trailing) (w : Watching) (k : ℕ) → IsSound cs t w → ArePropagated cs w.pairs t.steps (length t.steps) → k < length cs → is_falsified (trues t.steps) (clause_of cs k) ≡ true → is_satisfied (trues t.steps) (clause_of cs k) ≡ true
not_falsified cs t w k sound propagated inside falsified =
    let p = pair_of w.pairs k in
    let c = clause_of cs k in
    let front = trues (take (length t.steps) t.steps) in
    elim (guarded_cases front (trues t.steps) c p (propagated k inside)) [
      | inl satisfied ↦ satisfied
      | inr free ↦
          let parts = free_parts front p free in
          let false_one : is_false (trues t.steps) p.first ≡ true = all-has_literal (is_false (trues t.steps)) c p.first falsified (pair_parts c p (sound.watched.pairs k inside)).0 in
          let whole : front ≡ trues t.steps = ap trues (take_all (length t.steps) t.steps (omega arith)) in
          absurd (true≢false (sym false_one ∙ ap (λ (ls : List Lit). is_false ls p.first) (sym whole) ∙ parts.1))
    ]

-- a literal of a clause that is not true is not true
pub unsatisfied : (trues c : List Lit) (l : Lit) → is_satisfied trues c ≡ false → has_literal c l ≡ true → has_literal trues l ≡ false
unsatisfied trues c l none here = false_from_ne_true (has_literal trues l) (λ h. true≢false (sym (satisfied_from trues c l here h) ∙ none))

-- true clauses stay true
pub satisfied_more : (cs : List (List Lit)) (n : ℕ) (old new : List Step) → IsExtended old new → AreSatisfied cs n old → is_satisfied (trues new) (clause_of cs n) ≡ true → AreSatisfied cs (n + 1) new
satisfied_more cs n old new e before here k inside =
    elim (cases_lt k n) [
      | inl early ↦ satisfied_later (trues old) (trues new) (clause_of cs k) (extended_true old new e) (before k early)
      | inr late ↦ let same : k ≡ n = omega arith in rw same here
    ]

-- the value of a true literal
signed_true : (n : ℕ) (steps : List Step) (v : List Bool) (z : ℤ) → AreValues n steps v → ((l : Lit) → has_literal (trues steps) l ≡ true → is_false (trues steps) l ≡ false) → 0 < unsigned_abs z → unsigned_abs z ≤ n → has_literal (trues steps) (record { 0 = z }) ≡ true → signed_value (values_of v) z ≡ true
signed_true n steps v (pos k) values consistent some small h =
    let e : k - 1 + 1 ≡ k = omega arith in
    values.1 (k - 1) (omega arith) ∙ ap (λ (m : ℕ). has_literal (trues steps) (record { 0 = pos m })) e ∙ h
signed_true n steps v (negsuc k) values consistent some small h =
    let e : suc k - 1 ≡ k = omega arith in
    let none : has_literal (trues steps) (record { 0 = pos (suc k) }) ≡ false = consistent (record { 0 = negsuc k }) h in
    let back : k + 1 ≡ suc k = add-one k in
    ap not (ap (λ (m : ℕ). get_or v m false) e ∙ values.1 k (omega arith) ∙ ap (λ (m : ℕ). has_literal (trues steps) (record { 0 = pos m })) back ∙ none)

any_from_has : (p : Lit → Bool) (c : List Lit) (l : Lit) → has_literal c l ≡ true → p l ≡ true → list_any p c ≡ true
any_from_has p [] l h here = absurd cc
any_from_has p (x ∷ xs) l h here = elim (or_cases (same_literal l x) (has_literal xs l) h) [
  | inl same ↦ or_left (p x) (list_any p xs) (ap p (sym (same_literal-eq l x same)) ∙ here)
  | inr later ↦ or_right (p x) (list_any p xs) (any_from_has p xs l later here)
]

-- the values are a model once each clause is true
pub model_from : (f : Formula) (t : Trailing) (v : List Bool) → IsAssignment t → t.vars ≡ f.vars → AreValues f.vars t.steps v → AreSatisfied (known f []) (length f.clauses) t.steps → IsModel (values_of v) f
model_from f t v assigned vars values satisfied =
    all_from_places (is_clause_true (values_of v)) [] f.clauses (λ k inside.
    let c = clause_of f.clauses k in
    let true_one : is_satisfied (trues t.steps) c ≡ true = ap (λ (cs : List (List Lit)). is_satisfied (trues t.steps) (clause_of cs k)) (sym (append-nil f.clauses)) ∙ satisfied k inside in
    let r = satisfied_by (trues t.steps) c true_one in
    let small = within_parts t.vars r.0 (all-has_literal (is_within t.vars) (trues t.steps) r.0 assigned.within r.2) in
    any_from_has (is_literal_true (values_of v)) c r.0 r.1 (signed_true f.vars t.steps v r.0.0 values assigned.consistent small.0 (omega (arith, small.1, vars)) r.2))

-- fewer steps are sound, too
sound_cut : (cs : List (List Lit)) (t : Trailing) (w : Watching) (n : ℕ) → IsSound cs t w → n ≤ length t.steps → IsSound cs (record t { steps = take n t.steps }) w
sound_cut cs t w n sound within = record {
  within = sound.within;
  few = sound.few;
  places = sound.places;
  watched = sound.watched;
  justified = EachStep-take (IsJustified cs) n t.steps sound.justified within;
  based = EachStep-take (IsBased cs w.pairs) n t.steps sound.based within;
}

pub state_cut : (f : Formula) (lines : List LogLine) (t : Trailing) (w : Watching) (n : ℕ) → IsState f lines t w → n ≤ length t.steps → IsState f lines (record t { steps = take n t.steps }) w
state_cut f lines t w n s within = record {
  sound = sound_cut (known f lines) t w n s.sound within;
  vars = s.vars;
}

-- what is guarded up to a front is guarded up to less
guarded_less : (less front trues c : List Lit) (p : Pair) → IsWithin less front → is_guarded front trues c p ≡ true → is_guarded less trues c p ≡ true
guarded_less less front trues c p within h =
    elim (guarded_cases front trues c p h) [
      | inl satisfied ↦ guarded_satisfied less trues c p satisfied
      | inr free ↦ let parts = free_parts front p free in guarded_free less trues c p (free_from less p parts.0 (unfalse_before less front p.first within parts.1) (unfalse_before less front p.second within parts.2))
    ]

-- before a decision all was propagated, and so was any part of it
pub propagated_cut : (cs : List (List Lit)) (t : Trailing) (w : Watching) (end n : ℕ) → IsSound cs t w → end < length t.steps → IsDecision (step_at t.steps end) → ArePropagated cs w.pairs (take end t.steps) n
propagated_cut cs t w end n sound inside dec k known =
    guarded_less (trues (take n (take end t.steps))) (trues (take end t.steps)) (trues (take end t.steps)) (clause_of cs k) (pair_of w.pairs k) (within_take n (take end t.steps)) (sound.based end inside dec k known)

-- after a jump back
pub restarted : (f : Formula) (lines : List LogLine) (t : Trailing) (w : Watching) (done keep end : ℕ) → IsReady f lines t w done → IsCut t.steps keep end → IsReady f lines (record t { steps = take end t.steps }) w (min done end)
restarted f lines t w done keep end r cut = record {
  state = state_cut f lines t w end r.state cut.inside;
  inside = omega (arith, length-take-le end t.steps cut.inside);
  propagated = elim (cases_lt end (length t.steps)) [
    | inl less ↦ propagated_cut (known f lines) t w end (min done end) r.state.sound less (cut.at_decision less)
    | inr all ↦
        let whole : take end t.steps ≡ t.steps = take_all end t.steps all in
        let same : min done end ≡ done = omega (arith, r.inside, all) in
        subst (λ (ss : List Step). ArePropagated (known f lines) w.pairs ss (min done end)) (sym whole) (subst (λ (n : ℕ). ArePropagated (known f lines) w.pairs t.steps n) (sym same) r.propagated)
  ];
}

-- what a line is added to, after the jump back
pub record IsAddable (f : Formula) (lines : List LogLine) (t : Trailing) (w : Watching) (c : List Lit) (lit : Lit) (keep : ℕ) : Type 0 where
  pub sound : IsSound (known f lines) t w
  pub propagated : ArePropagated (known f lines) w.pairs t.steps (length t.steps)
  pub within : list_all (is_within t.vars) c ≡ true
  pub not_true : has_literal (trues t.steps) lit ≡ false
  pub not_false : is_false (trues t.steps) lit ≡ false
  pub asserting : IsAsserting t.steps c lit keep

pub addable : (f : Formula) (lines : List LogLine) (t : Trailing) (w : Watching) (s : LogLine) (lit : Lit) (keep end : ℕ) → IsState f lines t w → IsAssignment t → IsLearntClause f lines t.steps s lit keep → IsCut t.steps keep end → IsAddable f lines (record t { steps = take end t.steps }) w s.clause lit keep
addable f lines t w s lit keep end state assigned l cut =
    let low : end ≤ l.base = elim (cases_lt l.base end) [
      | inl high ↦ absurd (omega (arith, cut.last l.base high l.decision, l.kept))
      | inr fine ↦ fine
    ] in
    let less : end < length t.steps = omega (arith, low, l.inside) in
    let len : length (take end t.steps) ≡ end = length-take-le end t.steps cut.inside in
    let wrong : has_literal (trues t.steps) lit ≡ false = ap (λ (x : Lit). has_literal (trues t.steps) x) (sym (negate-negate lit)) ∙ assigned.consistent (negate lit) l.wrong in
    record {
      sound = sound_cut (known f lines) t w end state.sound cut.inside;
      propagated = propagated_cut (known f lines) t w end (length (take end t.steps)) state.sound less (cut.at_decision less);
      within = ap (λ (n : ℕ). list_all (is_within n) s.clause) state.vars ∙ l.within;
      not_true = false_from_ne_true (has_literal (trues (take end t.steps)) lit) (λ early. true≢false (sym (within_take end t.steps lit early) ∙ wrong));
      not_false = false_from_ne_true (is_false (trues (take end t.steps)) lit) (λ early. true≢false (sym (within_take end (take l.base t.steps) (negate lit) (ap (λ (ss : List Step). has_literal (trues ss) (negate lit)) (take-take end l.base t.steps low) ∙ early)) ∙ l.free));
      asserting = record {
        has = l.has;
        inside = omega (arith, len, cut.kept);
        others = ap (λ (ss : List Step). are_others_false (trues ss) s.clause lit) (take-take keep end t.steps cut.kept) ∙ l.others;
        last = λ some. ap (λ (x : Step). has_literal s.clause (negate x.lit)) (get_or-take end t.steps (keep - 1) (step_at [] 0) (omega (arith, some, cut.kept))) ∙ l.last some;
        decisions = λ p inside dec.
            let short : p < end = omega (arith, inside, len) in
            cut.last p short (sym (ap (λ (x : Step). x.reason) (get_or-take end t.steps p (step_at [] 0) short)) ∙ dec);
      };
    }

pub if_none_from : {X : Type 0} (o : Option X) (P : Type 0) → P → IfNone o P
if_none_from None P p = p
if_none_from (Some x) P p = tt
