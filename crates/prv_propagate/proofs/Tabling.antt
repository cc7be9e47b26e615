-- The tables beside a trail.
use Rattle.std.proofs.Common.{◌≡◌, ℕ, ◌+◌, ◌*◌, ◌<◌, ◌≤◌, Bool, true, false, not, ◌&&◌, ◌||◌, List, [], ◌∷◌, ◌++◌, length, take, drop, get_or, count_by, refl, sym, ap, subst, inl, inr, ◌∙◌, arith}
use Rattle.std.proofs.Common.{set, cond}
use Rattle.std.proofs.lemmas.List.{get_or_read, take-append-drop, get_or-drop, length-drop}
use Rattle.std.proofs.lemmas.Bool.Decides.{nat_tests}
use Rattle.std.specs.List.{list_all}
use Rattle.std.proofs.lemmas.Bool.{true≢false, cases_lt, cases_eq, or_right, false_from_ne_true}
use Rattle.std.proofs.lemmas.List.{map-append, get_or_append_left, get_or_push, get_or-take, length-take-le, length_push, length-set, get_or-set_same, get_or-set_other}
use Rattle.std.proofs.lemmas.List.Folds.{list_any-append}
use Rattle.std.proofs.lemmas.List.Sums.{sum_by-set, count_by-le-length}
use Rattle.prv_cnf.specs.declared.literal.Lit.{Lit}
use Rattle.prv_cnf.specs.Literals.{variable, negate, same_literal, has_literal}
use Rattle.prv_cnf.proofs.Values.{same_literal-eq, same_literal_refl, variable-negate, all-has_literal}
use Rattle.prv_cnf.proofs.Placing.{place_of-injective, place_of-le}
use Rattle.prv_check.specs.Propagation.{is_false}
use Rattle.prv_check.specs.Lines.{is_within}
use Rattle.prv_propagate.specs.declared.trail.Step.{Step}
use Rattle.prv_cnf.specs.Places.{place_of}
use Rattle.prv_propagate.specs.Trails.{trues, step_at, IsDecision, IsAssignment}
use Rattle.prv_propagate.specs.Keeping.{IsRising, IsLevel, IsLeveled, IsTrail, AreUnmarked}
use Rattle.prv_propagate.proofs.Signs.{one_variable, negate-apart, has_literal-push, all-push, all-from_each}
use Rattle.prv_propagate.proofs.Stepping.{trues_push, place_in, true_at, true_later}

-- the variable of a literal that is one of the first n
pub within_parts : (n : ℕ) (l : Lit) → is_within n l ≡ true → (0 < variable l) × (variable l ≤ n)
within_parts n l h = grind (arith, nat_tests)

-- each step's literal is of a variable
pub within_at : (n : ℕ) (steps : List Step) (k : ℕ) → list_all (is_within n) (trues steps) ≡ true → k < length steps → is_within n (step_at steps k).lit ≡ true
within_at n steps k all inside = all-has_literal (is_within n) (trues steps) (step_at steps k).lit all (true_at steps k inside)

-- the step of a true literal is the one whose place stands under its variable
pub positioned_at : {n : ℕ} {table : List Bool} {steps : List Step} {limits positions : List ℕ} (t : IsTrail n table steps limits positions) (l : Lit) → has_literal (trues steps) l ≡ true → (get_or positions (variable l) 0 < length steps) × ((step_at steps (get_or positions (variable l) 0)).lit ≡ l)
positioned_at {n} {table} {steps} {limits} {positions} t l h =
    let r = place_in steps l h in
    let e : get_or positions (variable l) 0 ≡ r.0 =
    ap (λ (x : Lit). get_or positions (variable x) 0) (sym r.2) ∙ t.positioned r.0 r.1 in
    rw e (r.1, r.2)

consistent_at : {n : ℕ} {table : List Bool} {steps : List Step} {limits positions : List ℕ} (t : IsTrail n table steps limits positions) (l : Lit) → has_literal (trues steps) l ≡ true → is_false (trues steps) l ≡ true → ⊥
consistent_at {n} {table} {steps} {limits} {positions} t l here there =
    let a = positioned_at t l here in
    let b = positioned_at t (negate l) there in
    let P : ℕ → Type 0 = λ v. (step_at steps (get_or positions v 0)).lit ≡ negate l in
    let c : (step_at steps (get_or positions (variable l) 0)).lit ≡ negate l = subst P (variable-negate l) b.1 in
    negate-apart l (within_parts n l (all-has_literal (is_within n) (trues steps) l t.within here)).0 (sym a.1 ∙ c)

once_at : {n : ℕ} {table : List Bool} {steps : List Step} {limits positions : List ℕ} (t : IsTrail n table steps limits positions) (k : ℕ) → k < length steps → has_literal (trues (take k steps)) (step_at steps k).lit ≡ true → ⊥
once_at {n} {table} {steps} {limits} {positions} t k inside before =
    let r = place_in (take k steps) (step_at steps k).lit before in
    let short : r.0 < k = omega (arith, r.1, length-take-le k steps (omega arith)) in
    let e : (step_at steps r.0).lit ≡ (step_at steps k).lit = sym (ap (λ (s : Step). s.lit) (get_or-take k steps r.0 (step_at [] 0) short)) ∙ r.2 in
    let same : r.0 ≡ k = sym (t.positioned r.0 (omega arith)) ∙ ap (λ (x : Lit). get_or positions (variable x) 0) e ∙ t.positioned k inside in
    omega arith

-- what the tables keep makes an assignment
pub assignment : {n : ℕ} {table : List Bool} {steps : List Step} {limits positions : List ℕ} (t : IsTrail n table steps limits positions) → IsAssignment (record { vars = n; steps = steps })
assignment {n} {table} {steps} {limits} {positions} t = record {
  within = t.within;
  consistent = λ l here. false_from_ne_true (is_false (trues steps) l) (λ there. consistent_at t l here there);
  once = λ k inside. false_from_ne_true (has_literal (trues (take k steps)) (step_at steps k).lit) (λ before. once_at t k inside before);
}

-- what a read of the place of a true literal gives
pub position_read : {n : ℕ} {table : List Bool} {steps : List Step} {limits positions : List ℕ} (t : IsTrail n table steps limits positions) (l : Lit) (v r : ℕ) → has_literal (trues steps) l ≡ true → v ≡ variable l → r ≡ get_or positions v r → (r < length steps) × ((step_at steps r).lit ≡ l)
position_read {n} {table} {steps} {limits} {positions} t l v r here e is =
    let within = within_parts n l (all-has_literal (is_within n) (trues steps) l t.within here) in
    let inside : v < length positions = omega (arith, t.room, within.1) in
    let known : r ≡ get_or positions (variable l) 0 = get_or_read positions v r inside is 0 ∙ ap (λ x. get_or positions x 0) e in
    rw known (positioned_at t l here)

or_same : (a b : Bool) → (b ≡ true → a ≡ true) → (a || b) ≡ a
or_same true b h = refl
or_same false true h = absurd (true≢false (sym (h refl)))
or_same false false h = refl

-- the table has room for what isn't true
pub free_place : {n : ℕ} {table : List Bool} {steps : List Step} {limits positions : List ℕ} (t : IsTrail n table steps limits positions) (l : Lit) → is_within n l ≡ true → place_of l < length table
free_place {n} {table} t l within = omega (arith, t.places, place_of-le l, (within_parts n l within).1)

counted_more : (table : List Bool) (i : ℕ) → i < length table → get_or table i false ≡ false → count_by (λ b. b) (set table i true) ≡ count_by (λ b. b) table + 1
counted_more table i inside free =
    let e : count_by (λ b. b) (set table i true) + cond {A = ℕ} (get_or table i false) 1 0 ≡ count_by (λ b. b) table + 1 = sum_by-set {X = Bool} (λ b. cond b 1 0) table i true false inside in
    let f : cond {A = ℕ} (get_or table i false) 1 0 ≡ 0 = ap (λ (b : Bool). cond {A = ℕ} b 1 0) free in
    omega (arith, e, f)

-- the trail is shorter than the table where a literal isn't true
pub room_left : {n : ℕ} {table : List Bool} {steps : List Step} {limits positions : List ℕ} (t : IsTrail n table steps limits positions) (l : Lit) → is_within n l ≡ true → has_literal (trues steps) l ≡ false → length steps < 2 * n + 1
room_left {n} {table} {steps} t l within free =
    let i = free_place t l within in
    let e = counted_more table (place_of l) i (t.marks l ∙ free) in
    omega (arith, t.places, t.counted, count_by-le-length (λ b. b) (set table (place_of l) true), length-set table (place_of l) true)

-- the marks after a literal became true
marks_more : (table : List Bool) (ls : List Lit) (m : Lit) → ((l : Lit) → get_or table (place_of l) false ≡ has_literal ls l) → place_of m < length table → (l : Lit) → get_or (set table (place_of m) true) (place_of l) false ≡ has_literal (ls ++ m ∷ []) l
marks_more table ls m marks inside l =
    elim (cases_eq (place_of l) (place_of m)) [
      | inl same ↦
          let e : l ≡ m = place_of-injective l m same in
          rw same (get_or-set_same table (place_of m) true false inside)
          ∙ sym (has_literal-push ls m l ∙ or_right (has_literal ls l) (same_literal l m) (rw e (same_literal_refl m)))
      | inr other ↦
          get_or-set_other table (place_of m) (place_of l) true false other
          ∙ marks l
          ∙ sym (has_literal-push ls m l ∙ or_same (has_literal ls l) (same_literal l m) (λ h. absurd (other (ap place_of (same_literal-eq l m h)))))
    ]

-- the places after a literal of a new variable became true
positioned_more : (n : ℕ) (steps : List Step) (positions : List ℕ) (s : Step) → list_all (is_within n) (trues steps) ≡ true → length positions ≡ n + 1 → is_within n s.lit ≡ true → has_literal (trues steps) s.lit ≡ false → is_false (trues steps) s.lit ≡ false → ((k : ℕ) → k < length steps → get_or positions (variable (step_at steps k).lit) 0 ≡ k) → (k : ℕ) → k < length (steps ++ s ∷ []) → get_or (set positions (variable s.lit) (length steps)) (variable (step_at (steps ++ s ∷ []) k).lit) 0 ≡ k
positioned_more n steps positions s all room within not_true not_false before k h =
    let here = within_parts n s.lit within in
    let inside : variable s.lit < length positions = omega (arith, here.1) in
    elim (cases_lt k (length steps)) [
      | inl early ↦
          let e : step_at (steps ++ s ∷ []) k ≡ step_at steps k = get_or_append_left steps (s ∷ []) (step_at [] 0) k early in
          let apart : variable (step_at steps k).lit ≡ variable s.lit → ⊥ = λ same. elim (one_variable (step_at steps k).lit s.lit same) [
            | inl one ↦ true≢false (sym (true_at steps k early) ∙ ap (λ (l : Lit). has_literal (trues steps) l) one ∙ not_true)
            | inr two ↦ true≢false (sym (true_at steps k early) ∙ ap (λ (l : Lit). has_literal (trues steps) l) two ∙ not_false)
          ] in
          rw e (get_or-set_other positions (variable s.lit) (variable (step_at steps k).lit) (length steps) 0 apart ∙ before k early)
      | inr late ↦
          let e : length steps ≡ k = omega (arith, length_push steps s) in
          let f : step_at (steps ++ s ∷ []) k ≡ s = get_or_push steps s (step_at [] 0) k e in
          rw f (get_or-set_same positions (variable s.lit) (length steps) 0 inside ∙ e)
    ]

-- a step that is no decision leaves the limits
pub leveled_more : (steps : List Step) (limits : List ℕ) (s : Step) → IsLeveled steps limits → (IsDecision s → ⊥) → IsLeveled (steps ++ s ∷ []) limits
leveled_more steps limits s l implied = record {
  rising = l.rising;
  decisions = λ j h. let d = l.decisions j h in (omega (arith, d.0, length_push steps s), rw (get_or_append_left steps (s ∷ []) (step_at [] 0) (get_or limits j 0) d.0) d.1);
  found = λ p h dec. elim (cases_lt p (length steps)) [
    | inl early ↦ l.found p early (sym (ap (λ (s : Step). s.reason) (get_or_append_left steps (s ∷ []) (step_at [] 0) p early)) ∙ dec)
    | inr late ↦ absurd (implied (sym (ap (λ (s : Step). s.reason) (get_or_push steps s (step_at [] 0) p (omega (arith, length_push steps s)))) ∙ dec))
  ];
}

-- a decision adds its place to the limits
pub leveled_decision : (steps : List Step) (limits : List ℕ) (s : Step) → IsLeveled steps limits → IsDecision s → IsLeveled (steps ++ s ∷ []) (limits ++ length steps ∷ [])
leveled_decision steps limits s l decided = record {
  rising = λ i j h inside. elim (cases_lt j (length limits)) [
    | inl early ↦ rw (get_or_append_left limits (length steps ∷ []) 0 j early, get_or_append_left limits (length steps ∷ []) 0 i (omega arith)) (l.rising i j h early)
    | inr late ↦
        let e : length limits ≡ j = omega (arith, length_push limits (length steps)) in
        rw (get_or_push limits (length steps) 0 j e, get_or_append_left limits (length steps ∷ []) 0 i (omega arith)) ((l.decisions i (omega arith)).0)
  ];
  decisions = λ j h. elim (cases_lt j (length limits)) [
    | inl early ↦
        let d = l.decisions j early in
        rw (get_or_append_left limits (length steps ∷ []) 0 j early) (omega (arith, d.0, length_push steps s), rw (get_or_append_left steps (s ∷ []) (step_at [] 0) (get_or limits j 0) d.0) d.1)
    | inr late ↦
        let e : length limits ≡ j = omega (arith, length_push limits (length steps)) in
        rw (get_or_push limits (length steps) 0 j e) (omega (arith, length_push steps s), rw (get_or_push steps s (step_at [] 0) (length steps) refl) decided)
  ];
  found = λ p h dec. elim (cases_lt p (length steps)) [
    | inl early ↦
        let r = l.found p early (sym (ap (λ (s : Step). s.reason) (get_or_append_left steps (s ∷ []) (step_at [] 0) p early)) ∙ dec) in
        (r.0, omega (arith, r.1, length_push limits (length steps)), get_or_append_left limits (length steps ∷ []) 0 r.0 r.1 ∙ r.2)
    | inr late ↦
        (length limits, omega (arith, length_push limits (length steps)), get_or_push limits (length steps) 0 (length limits) refl ∙ omega (arith, length_push steps s))
  ];
}

-- the tables after one step more
pub trail_more : {n : ℕ} {table : List Bool} {steps : List Step} {limits positions : List ℕ} (t : IsTrail n table steps limits positions) (s : Step) (more : List ℕ) → is_within n s.lit ≡ true → has_literal (trues steps) s.lit ≡ false → is_false (trues steps) s.lit ≡ false → IsLeveled (steps ++ s ∷ []) more → IsTrail n (set table (place_of s.lit) true) (steps ++ s ∷ []) more (set positions (variable s.lit) (length steps))
trail_more {n} {table} {steps} {limits} {positions} t s more within not_true not_false leveled = record {
  small = t.small;
  places = length-set table (place_of s.lit) true ∙ t.places;
  marks = λ l. marks_more table (trues steps) s.lit t.marks (free_place t s.lit within) l ∙ ap (λ (ls : List Lit). has_literal ls l) (sym (trues_push steps s));
  counted = omega (arith, t.counted, length_push steps s, counted_more table (place_of s.lit) (free_place t s.lit within) (t.marks s.lit ∙ not_true));
  room = length-set positions (variable s.lit) (length steps) ∙ t.room;
  positioned = positioned_more n steps positions s t.within t.room within not_true not_false t.positioned;
  within = ap (λ (ls : List Lit). list_all (is_within n) ls) (trues_push steps s) ∙ all-push (is_within n) (trues steps) s.lit t.within within;
  leveled = leveled;
}

-- the same, where the code's numbers stand
pub trail_next : {n : ℕ} {table : List Bool} {steps : List Step} {limits positions : List ℕ} (t : IsTrail n table steps limits positions) (s : Step) (more : List ℕ) (p v m : ℕ) (after : List Step) → p ≡ place_of s.lit → v ≡ variable s.lit → m ≡ length steps → after ≡ steps ++ s ∷ [] → is_within n s.lit ≡ true → has_literal (trues steps) s.lit ≡ false → is_false (trues steps) s.lit ≡ false → IsLeveled (steps ++ s ∷ []) more → IsTrail n (set table p true) after more (set positions v m)
trail_next {n} {table} {steps} {limits} {positions} t s more p v m after a b c d within not_true not_false leveled = rw (a, b, c, d) (trail_more t s more within not_true not_false leveled)

-- one step's mark less
and_swap : (a b c : Bool) → b ≡ c → (a && b) ≡ (a && c)
and_swap a b c e = ap (λ x. a && x) e

not_or : (a b : Bool) → (not a && not b) ≡ not (a || b)
not_or true b = refl
not_or false b = refl

and_assoc : (a b c : Bool) → ((a && b) && c) ≡ (a && (b && c))
and_assoc true b c = refl
and_assoc false b c = refl

same_or_not : (b : Bool) → b ≡ false → (a : Bool) → (a && not b) ≡ a
same_or_not true h a = absurd (true≢false h)
same_or_not false h true = refl
same_or_not false h false = refl

pub unmarked_more : (old table : List Bool) (steps : List Step) (s : Step) → AreUnmarked old steps table → place_of s.lit < length table → AreUnmarked old (steps ++ s ∷ []) (set table (place_of s.lit) false)
unmarked_more old table steps s before inside l =
    let b = get_or old (place_of l) false in
    let h = has_literal (trues steps) l in
    let whole : has_literal (trues (steps ++ s ∷ [])) l ≡ (h || same_literal l s.lit) = ap (λ (ls : List Lit). has_literal ls l) (trues_push steps s) ∙ has_literal-push (trues steps) s.lit l in
    elim (cases_eq (place_of l) (place_of s.lit)) [
      | inl same ↦
          let e : l ≡ s.lit = place_of-injective l s.lit same in
          let one : (h || same_literal l s.lit) ≡ true = or_right h (same_literal l s.lit) (rw e (same_literal_refl s.lit)) in
          rw same (get_or-set_same table (place_of s.lit) false false inside)
          ∙ sym (and_swap b (not (has_literal (trues (steps ++ s ∷ [])) l)) false (rw (whole, one) refl) ∙ and_none b)
      | inr other ↦
          let none : same_literal l s.lit ≡ false = false_from_ne_true (same_literal l s.lit) (λ h. other (ap place_of (same_literal-eq l s.lit h))) in
          get_or-set_other table (place_of s.lit) (place_of l) false false other
          ∙ before l
          ∙ and_swap b (not h) (not (has_literal (trues (steps ++ s ∷ [])) l)) (ap not (sym (whole ∙ ap (λ x. h || x) none ∙ or_none h)))
    ]
  where
    and_none : (b : Bool) → (b && false) ≡ false
    and_none true = refl
    and_none false = refl

    or_none : (b : Bool) → (b || false) ≡ b
    or_none true = refl
    or_none false = refl

pub count_less : (table : List Bool) (i : ℕ) → i < length table → count_by (λ b. b) table ≤ count_by (λ b. b) (set table i false) + 1
count_less table i inside =
    let e : count_by (λ b. b) (set table i false) + cond {A = ℕ} (get_or table i false) 1 0 ≡ count_by (λ b. b) table + 0 = sum_by-set {X = Bool} (λ b. cond b 1 0) table i false false inside in
    let f : cond {A = ℕ} (get_or table i false) 1 0 ≤ 1 = at_most (get_or table i false) in
    omega (arith, e, f)
  where
    at_most : (b : Bool) → cond {A = ℕ} b 1 0 ≤ 1
    at_most true = omega arith
    at_most false = omega arith

-- the limits that are left, after so many steps
leveled_take : (steps : List Step) (limits : List ℕ) (end level : ℕ) → IsLeveled steps limits → end ≤ length steps → IsLevel limits end level → IsLeveled (take end steps) (take level limits)
leveled_take steps limits end level l within at = record {
  rising = λ i j h inside.
      let short : j < level = omega (arith, length-take-le level limits at.inside) in
      rw (get_or-take level limits i 0 (omega arith), get_or-take level limits j 0 short) (l.rising i j h (omega (arith, at.inside)));
  decisions = λ j inside.
      let short : j < level = omega (arith, length-take-le level limits at.inside) in
      let low = at.below j short in
      rw (get_or-take level limits j 0 short) (omega (arith, low, length-take-le end steps within), rw (get_or-take end steps (get_or limits j 0) (step_at [] 0) low) (l.decisions j (omega (arith, at.inside))).1);
  found = λ p inside dec.
      let low : p < end = omega (arith, length-take-le end steps within) in
      let r = l.found p (omega arith) (sym (ap (λ (s : Step). s.reason) (get_or-take end steps p (step_at [] 0) low)) ∙ dec) in
      let short : r.0 < level = elim (cases_lt r.0 level) [
        | inl yes_short ↦ yes_short
        | inr past ↦ absurd (omega (arith, r.1, r.2, at.next (omega (arith, r.1)), rising_le limits level r.0 l.rising past r.1))
      ] in
      (r.0, omega (arith, short, length-take-le level limits at.inside), get_or-take level limits r.0 0 short ∙ r.2);
}
  where
    rising_le : (limits : List ℕ) (i j : ℕ) → IsRising limits → i ≤ j → j < length limits → get_or limits i 0 ≤ get_or limits j 0
    rising_le limits i j rising h inside = elim (cases_eq i j) [
      | inl same ↦ rw same (omega arith)
      | inr apart ↦ omega (arith, rising i j (omega arith) inside)
    ]

-- a literal stands in one part of the trail alone
apart_parts : {n : ℕ} {table : List Bool} {steps : List Step} {limits positions : List ℕ} (t : IsTrail n table steps limits positions) (end : ℕ) (l : Lit) → end ≤ length steps → has_literal (trues (take end steps)) l ≡ true → has_literal (trues (drop end steps)) l ≡ true → ⊥
apart_parts {n} {table} {steps} {limits} {positions} t end l within early late =
    let i = place_in (take end steps) l early in
    let j = place_in (drop end steps) l late in
    let short : i.0 < end = omega (arith, i.1, length-take-le end steps within) in
    let a : (step_at steps i.0).lit ≡ l = sym (ap (λ (s : Step). s.lit) (get_or-take end steps i.0 (step_at [] 0) short)) ∙ i.2 in
    let b : (step_at steps (end + j.0)).lit ≡ l = sym (ap (λ (s : Step). s.lit) (get_or-drop end steps j.0 (step_at [] 0))) ∙ j.2 in
    let one : end + j.0 < length steps = omega (arith, j.1, length-drop end steps) in
    let same : i.0 ≡ end + j.0 = sym (t.positioned i.0 (omega arith)) ∙ ap (λ (x : Lit). get_or positions (variable x) 0) (a ∙ sym b) ∙ t.positioned (end + j.0) one in
    omega arith

trues_parts : (end : ℕ) (steps : List Step) (l : Lit) → has_literal (trues steps) l ≡ (has_literal (trues (take end steps)) l || has_literal (trues (drop end steps)) l)
trues_parts end steps l =
    ap (λ (ss : List Step). has_literal (trues ss) l) (sym (take-append-drop end steps))
    ∙ ap (λ (ls : List Lit). has_literal ls l) (map-append (λ (s : Step). s.lit) (take end steps) (drop end steps))
    ∙ list_any-append (same_literal l) (trues (take end steps)) (trues (drop end steps))

front_only : (a b c : Bool) → c ≡ (a || b) → (a ≡ true → b ≡ true → ⊥) → (c && not b) ≡ a
front_only true true c e apart = absurd (apart refl refl)
front_only true false c e apart = rw e refl
front_only false true c e apart = rw e refl
front_only false false c e apart = rw e refl

-- the tables after a jump back
pub trail_cut : {n : ℕ} {table : List Bool} {steps : List Step} {limits positions : List ℕ} (t : IsTrail n table steps limits positions) (end level : ℕ) (new : List Bool) → end ≤ length steps → IsLevel limits end level → length new ≡ length table → AreUnmarked table (drop end steps) new → count_by (λ b. b) table ≤ count_by (λ b. b) new + length (drop end steps) → IsTrail n new (take end steps) (take level limits) positions
trail_cut {n} {table} {steps} {limits} {positions} t end level new within at len unmarked count = record {
  small = t.small;
  places = len ∙ t.places;
  marks = λ l. unmarked l ∙ ap (λ b. b && not (has_literal (trues (drop end steps)) l)) (t.marks l) ∙ front_only (has_literal (trues (take end steps)) l) (has_literal (trues (drop end steps)) l) (has_literal (trues steps) l) (trues_parts end steps l) (apart_parts t end l within);
  counted = omega (arith, t.counted, count, length-drop end steps, length-take-le end steps within);
  room = t.room;
  positioned = λ k inside.
      let short : k < end = omega (arith, length-take-le end steps within) in
      rw (get_or-take end steps k (step_at [] 0) short) (t.positioned k (omega arith));
  within = all-from_each (is_within n) (trues (take end steps)) (λ l h. all-has_literal (is_within n) (trues steps) l t.within (true_later end steps l h));
  leveled = leveled_take steps limits end level t.leveled within at;
}
