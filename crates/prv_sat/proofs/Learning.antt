-- The line of the negations of the marked literals.
use Rattle.std.proofs.Common.{◌≡◌, ℕ, ◌-◌, ◌<◌, Bool, true, false, not, ◌||◌, List, [], ◌∷◌, length, take, get_or, map, refl, sym, ap, inl, inr, ◌∙◌, arith}
use Rattle.std.specs.List.{list_all, list_any}
use Rattle.std.proofs.lemmas.Bool.{cases_lt, or_cases, true≢false, or_right, or_left, and_parts, and_from, false_from_ne_true, not_from_false}
use Rattle.std.proofs.lemmas.List.{append-nil, take-take}
use Rattle.prv_cnf.specs.declared.literal.Lit.{Lit}
use Rattle.prv_cnf.specs.Literals.{negate, same_literal, has_literal}
use Rattle.prv_cnf.specs.Formulas.{Formula}
use Rattle.prv_cnf.proofs.Values.{same_literal-eq, same_literal_refl, negate-negate, all-has_literal}
use Rattle.prv_check.specs.LogLines.{LogLine}
use Rattle.prv_check.specs.Propagation.{is_false}
use Rattle.prv_check.specs.Lines.{known, clauses_at, is_within, no_repeat, is_tautology, is_empty, Follows}
use Rattle.prv_check.specs.Freshness.{contains_clause, is_new, stands_in, units_used, is_lean}
use Rattle.prv_propagate.specs.declared.trail.Step.{Step}
use Rattle.prv_propagate.specs.Trails.{Trailing, trues, step_at, IsAssignment}
use Rattle.prv_propagate.specs.Reasons.{clause_of}
use Rattle.prv_cnf.proofs.Values.{variable-negate}
use Rattle.prv_propagate.proofs.Signs.{all-from_each}
use Rattle.prv_propagate.proofs.Stepping.{true_at}
use Rattle.prv_propagate.proofs.Listing.{any_place}
use Rattle.prv_propagate.proofs.Guarding.{satisfied_by, free_parts}
use Rattle.prv_propagate.proofs.Walking.{within_take}
use Rattle.prv_sat.specs.declared.analysis.UniquePoint.{UniquePoint}
use Rattle.prv_sat.specs.Analyses.{IsPartOf, IsDerived, IsUniquePoint, IsReach, AreOpen}
use Rattle.prv_sat.proofs.Deriving.{derived_none}
use Rattle.prv_sat.specs.Conclusions.{IsEnd, IsLearntClause}

-- a literal and the negation of another
pub same_negate : (a b : Lit) → same_literal a (negate b) ≡ same_literal (negate a) b
same_negate a b = go (same_literal a (negate b)) refl (same_literal (negate a) b) refl
  where
    go : (x : Bool) → same_literal a (negate b) ≡ x → (y : Bool) → same_literal (negate a) b ≡ y → x ≡ y
    go true e true h = refl
    go false e false h = refl
    go true e false h = let m : negate a ≡ b = ap negate (same_literal-eq a (negate b) e) ∙ negate-negate b in sym (ap (λ (x : Lit). same_literal x b) m ∙ same_literal_refl b) ∙ h
    go false e true h = let m : a ≡ negate b = sym (negate-negate a) ∙ ap negate (same_literal-eq (negate a) b h) in sym e ∙ ap (λ (x : Lit). same_literal x (negate b)) m ∙ same_literal_refl (negate b)

-- a literal of the negations
pub has_negations : (xs : List Lit) (l : Lit) → has_literal (map negate xs) l ≡ has_literal xs (negate l)
has_negations [] l = refl
has_negations (x ∷ xs) l = ap (λ b. b || has_literal (map negate xs) l) (same_negate l x) ∙ ap (λ b. same_literal (negate l) x || b) (has_negations xs l)

pub has_negations_back : (xs : List Lit) (l : Lit) → has_literal (map negate xs) (negate l) ≡ has_literal xs l
has_negations_back xs l = has_negations xs (negate l) ∙ ap (λ (x : Lit). has_literal xs x) (negate-negate l)

no_repeat-negations : (xs : List Lit) → no_repeat xs ≡ true → no_repeat (map negate xs) ≡ true
no_repeat-negations [] h = refl
no_repeat-negations (x ∷ xs) h =
    let a = and_parts (not (has_literal xs x)) (no_repeat xs) h in
    and_from (not (has_literal (map negate xs) (negate x))) (no_repeat (map negate xs)) (ap not (has_negations_back xs x) ∙ a.0) (no_repeat-negations xs a.1)

within_negate : (n : ℕ) (l : Lit) → is_within n l ≡ true → is_within n (negate l) ≡ true
within_negate n l h = rw (variable-negate l) h

within-negations : (n : ℕ) (xs : List Lit) → list_all (is_within n) xs ≡ true → list_all (is_within n) (map negate xs) ≡ true
within-negations n [] h = refl
within-negations n (x ∷ xs) h =
    let a = and_parts (is_within n x) (list_all (is_within n) xs) h in
    and_from (is_within n (negate x)) (list_all (is_within n) (map negate xs)) (within_negate n x a.0) (within-negations n xs a.1)

any_has : (p : Lit → Bool) (ls : List Lit) → list_any p ls ≡ true → (l : Lit) × (has_literal ls l ≡ true) × (p l ≡ true)
any_has p [] h = absurd cc
any_has p (x ∷ xs) h = elim (or_cases (p x) (list_any p xs) h) [
  | inl here ↦ (x, or_left (same_literal x x) (has_literal xs x) (same_literal_refl x), here)
  | inr later ↦ let r = any_has p xs later in (r.0, or_right (same_literal r.0 x) (has_literal xs r.0) r.1, r.2)
]

-- the literals of the line, where it is made of the marked ones
abbrev pub line_of : List Lit → List ℕ → LogLine
line_of marked hints = record { clause = map negate marked; hints = hints }

-- the line follows
pub line_follows : (f : Formula) (lines : List LogLine) (t : Trailing) (bound marked : List Lit) (hints : List ℕ) → IsAssignment t → t.vars ≡ f.vars → IsDerived (known f lines) (trues t.steps) bound marked hints → no_repeat marked ≡ true → list_all (is_within f.vars) marked ≡ true → Follows f lines (line_of marked hints)
line_follows f lines t bound marked hints assigned vars d once inside =
    let cs = known f lines in
    let c = map negate marked in
    let within = within-negations f.vars marked inside in
    let repeat = no_repeat-negations marked once in
    let true_one : (x : Lit) → has_literal marked x ≡ true → has_literal (trues t.steps) x ≡ true = λ x h. d.bounded x (d.inside x h) in
    let tautology : is_tautology c ≡ false = false_from_ne_true (is_tautology c) (λ h.
    let r = any_has (λ l. has_literal c (negate l)) c h in
    true≢false (sym (true_one (negate r.0) (sym (has_negations marked r.0) ∙ r.1)) ∙ assigned.consistent r.0 (true_one r.0 (sym (has_negations_back marked r.0) ∙ r.2)))) in
    let back : (x : Lit) → has_literal (map negate c) x ≡ has_literal marked x = λ x. has_negations c x ∙ has_negations_back marked x in
    let ends = d.ends (map negate c) (λ x h. back x ∙ h) (λ x h. true_one x (sym (back x) ∙ h)) in
    rw (within, repeat, tautology, d.some, d.known) ends.0

-- the line is lean
line_lean : (f : Formula) (lines : List LogLine) (t : Trailing) (marked : List Lit) (hints : List ℕ) → IsDerived (known f lines) (trues t.steps) marked marked hints → is_lean f lines (line_of marked hints) ≡ true
line_lean f lines t marked hints d =
    let cs = known f lines in
    let c = map negate marked in
    let back : (x : Lit) → has_literal (map negate c) x ≡ has_literal marked x = λ x. has_negations c x ∙ has_negations_back marked x in
    let ends = d.ends (map negate c) (λ x h. back x ∙ h) (λ x h. d.bounded x (sym (back x) ∙ h)) in
    and_from (list_all (stands_in (clauses_at cs hints)) c) (units_used (map negate c) (clauses_at cs hints))
    (all-from_each (stands_in (clauses_at cs hints)) c (λ l h. ap (λ (x : Lit). stands_in (clauses_at cs hints) x) (sym (negate-negate l)) ∙ d.used (negate l) (sym (has_negations marked l) ∙ h)))
    ends.1

-- the line contains no clause before it
line_new : (f : Formula) (lines : List LogLine) (t : Trailing) (marked : List Lit) (hints : List ℕ) (point : UniquePoint) → IsAssignment t → IsDerived (known f lines) (trues t.steps) marked marked hints → AreOpen (known f lines) t.steps → IsUniquePoint t.steps marked point → is_new f lines (line_of marked hints) ≡ true
line_new f lines t marked hints point assigned d open_ones u =
    let cs = known f lines in
    let c = map negate marked in
    let uip = (step_at t.steps point.at).lit in
    let base_inside : point.base < length t.steps = omega (arith, u.base, u.inside) in
    let front = trues (take point.base t.steps) in
    let some : is_empty c ≡ false = not_empty marked uip u.marked_there in
    let none : list_any (contains_clause c) cs ≡ false = false_from_ne_true (list_any (contains_clause c) cs) (λ h.
    let r = any_place (contains_clause c) [] cs h in
    let k = clause_of cs r.0 in
    let marked_neg : (x : Lit) → has_literal k x ≡ true → has_literal marked (negate x) ≡ true = λ x here. sym (has_negations marked x) ∙ all-has_literal (has_literal c) k x r.2 here in
    elim (open_ones point.base base_inside u.decision r.0 r.1) [
      | inl satisfied ↦
          let s = satisfied_by front k satisfied in
          true≢false (sym (d.bounded (negate s.0) (marked_neg s.0 s.1)) ∙ assigned.consistent s.0 (within_take point.base t.steps s.0 s.2))
      | inr free ↦
          let parts = free_parts front free.0 free.3 in
          let one : (x : Lit) → has_literal k x ≡ true → is_false front x ≡ false → negate x ≡ uip = λ x here open_one. elim (u.others (negate x) (marked_neg x here)) [
            | inl same ↦ same
            | inr early ↦ absurd (true≢false (sym early ∙ open_one))
          ] in
          let first = one free.0.first free.1 parts.1 in
          let second = one free.0.second free.2 parts.2 in
          let same : free.0.first ≡ free.0.second = sym (negate-negate free.0.first) ∙ ap negate (first ∙ sym second) ∙ negate-negate free.0.second in
          true≢false (sym (rw same (same_literal_refl free.0.second)) ∙ parts.0)
    ]) in
    and_from (not (is_empty c)) (not (list_any (contains_clause c) cs)) (not_from_false (is_empty c) some) (not_from_false (list_any (contains_clause c) cs) none)
  where
    not_empty : (xs : List Lit) (l : Lit) → has_literal xs l ≡ true → is_empty (map negate xs) ≡ false
    not_empty [] l h = absurd cc
    not_empty (x ∷ xs) l h = refl

-- the last line, where nothing is marked
pub line_end : (f : Formula) (lines : List LogLine) (t : Trailing) (marked : List Lit) (hints : List ℕ) → IsAssignment t → t.vars ≡ f.vars → IsDerived (known f lines) (trues t.steps) [] marked hints → IsEnd f lines (record { clause = []; hints = hints })
line_end f lines t [] hints assigned vars d = record {
  empty = refl;
  follows = line_follows f lines t [] [] hints assigned vars d refl refl;
  distinct = d.distinct;
}
line_end f lines t (x ∷ xs) hints assigned vars d = absurd (true≢false (sym (d.inside x (or_left (same_literal x x) (has_literal xs x) (same_literal_refl x)))))

no_steps : (n : ℕ) → IsAssignment (record { vars = n; steps = [] })
no_steps n = record {
  within = refl;
  consistent = λ l h. refl;
  once = λ k inside. absurd (omega arith);
}

-- the last line, by a clause without literals
pub end_by : (f : Formula) (n : ℕ) → n < length f.clauses → get_or f.clauses n [] ≡ [] → IsEnd f [] (record { clause = []; hints = n ∷ [] })
end_by f n inside none =
    let all : known f [] ≡ f.clauses = append-nil f.clauses in
    let empty : clause_of (known f []) n ≡ [] = ap (λ (cs : List (List Lit)). get_or cs n []) all ∙ none in
    let here : n < length (known f []) = rw all inside in
    let falsified : list_all (is_false []) (clause_of (known f []) n) ≡ true = rw empty refl in
    let is : (x : Lit) → has_literal [] x ≡ has_literal (clause_of (known f []) n) (negate x) = λ x. rw empty refl in
    line_end f [] (record { vars = f.vars; steps = [] }) [] (n ∷ []) (no_steps f.vars) refl (derived_none (known f []) [] [] n (λ l h. refl) here falsified is)

-- a step that was reached stands before the base
below_base : (t : Trailing) (base k : ℕ) → IsAssignment t → k < length t.steps → has_literal (trues (take base t.steps)) (step_at t.steps k).lit ≡ true → k < base
below_base t base k assigned inside h =
    elim (cases_lt k base) [
      | inl low ↦ low
      | inr high ↦ absurd (true≢false (sym (within_take base (take k t.steps) (step_at t.steps k).lit (ap (λ (ss : List Step). has_literal (trues ss) (step_at t.steps k).lit) (take-take base k t.steps high) ∙ h)) ∙ assigned.once k inside))
    ]

-- a unique implication point may have fewer marks
pub point_fewer : (steps : List Step) (marked after : List Lit) (point : UniquePoint) → IsUniquePoint steps marked point → IsPartOf after marked → has_literal after (step_at steps point.at).lit ≡ true → IsUniquePoint steps after point
point_fewer steps marked after point u fewer here = record {
  inside = u.inside;
  marked_there = here;
  base = u.base;
  decision = u.decision;
  others = λ l h. u.others l (fewer l h);
}

-- the learnt clause of a unique implication point
pub learnt_clause_from : (f : Formula) (lines : List LogLine) (t : Trailing) (marked : List Lit) (hints : List ℕ) (point : UniquePoint) (keep : ℕ) → IsAssignment t → t.vars ≡ f.vars → IsDerived (known f lines) (trues t.steps) marked marked hints → AreOpen (known f lines) t.steps → IsUniquePoint t.steps marked point → IsReach t.steps marked (step_at t.steps point.at).lit keep → no_repeat marked ≡ true → list_all (is_within f.vars) marked ≡ true → IsLearntClause f lines t.steps (line_of marked hints) (negate (step_at t.steps point.at).lit) keep
learnt_clause_from f lines t marked hints point keep assigned vars d open_ones u reached once inside =
    let uip = (step_at t.steps point.at).lit in
    let c = map negate marked in
    let base_inside : point.base < length t.steps = omega (arith, u.base, u.inside) in
    record {
      learnt = record {
        follows = line_follows f lines t marked marked hints assigned vars d once inside;
        fresh = (line_new f lines t marked hints point assigned d open_ones u, line_lean f lines t marked hints d);
        distinct = d.distinct;
      };
      within = within-negations f.vars marked inside;
      has = has_negations_back marked uip ∙ u.marked_there;
      others = all-from_each (λ x. same_literal (negate uip) x || is_false (trues (take keep t.steps)) x) c (λ x h. elim (reached.others (negate x) (sym (has_negations marked x) ∙ h)) [
        | inl same ↦ or_left (same_literal (negate uip) x) (is_false (trues (take keep t.steps)) x) (ap (λ (y : Lit). same_literal y x) (ap negate (sym same) ∙ negate-negate x) ∙ same_literal_refl x)
        | inr early ↦ or_right (same_literal (negate uip) x) (is_false (trues (take keep t.steps)) x) early
      ]);
      last = λ some.
          let r = reached.last some in
          let e : r.0 ≡ keep - 1 = omega (arith, r.1) in
          has_negations_back marked (step_at t.steps (keep - 1)).lit ∙ ap (λ (k : ℕ). has_literal marked (step_at t.steps k).lit) (sym e) ∙ r.2;
      wrong = ap (λ (x : Lit). has_literal (trues t.steps) x) (negate-negate uip) ∙ true_at t.steps point.at u.inside;
      base = point.base;
      inside = base_inside;
      kept = elim (cases_lt 0 keep) [
        | inr none ↦ omega (arith, none)
        | inl some ↦
            let r = reached.last some in
            let there : r.0 < length t.steps = omega (arith, r.1, reached.inside) in
            let low : r.0 < point.base = elim (u.others (step_at t.steps r.0).lit r.2) [
              | inl same ↦ absurd (true≢false (sym (rw same (same_literal_refl uip)) ∙ r.3))
              | inr early ↦ below_base t point.base r.0 assigned there early
            ] in
            omega (arith, r.1, low)
      ];
      decision = u.decision;
      free = ap (λ (x : Lit). has_literal (trues (take point.base t.steps)) x) (negate-negate uip) ∙ false_from_ne_true (has_literal (trues (take point.base t.steps)) uip) (λ early. absurd (omega (arith, below_base t point.base point.at assigned u.inside early, u.base)));
    }
