-- The steps of an analysis along a trail.
use Rattle.std.proofs.Common.{◌≡◌, ℕ, ◌+◌, ◌<◌, ◌≤◌, ◌⊎◌, Bool, true, false, not, ◌&&◌, ◌||◌, List, [], ◌∷◌, ◌++◌, length, take, get_or, reverse, max, Option, None, Some, refl, sym, ap, subst, inl, inr, ◌∙◌, arith}
use Rattle.std.specs.List.{list_all}
use Rattle.std.proofs.lemmas.Bool.{cases_lt, or_cases, true≢false, or_right, or_left, and_parts, and_from, not-true, not_from_false}
use Rattle.std.proofs.lemmas.List.{reverse-append, take_all, take_more, take-take}
use Rattle.prv_cnf.specs.declared.literal.Lit.{Lit}
use Rattle.prv_cnf.specs.Literals.{negate, same_literal, has_literal}
use Rattle.prv_cnf.proofs.Values.{same_literal-eq, negate-negate, all-has_literal}
use Rattle.prv_check.specs.Propagation.{is_false}
use Rattle.prv_check.specs.Lines.{is_within}
use Rattle.prv_propagate.specs.declared.trail.Step.{Step}
use Rattle.prv_propagate.specs.Trails.{Trailing, trues, step_at, IsDecision, IsAssignment}
use Rattle.prv_propagate.specs.Reasons.{clause_of, is_reason, are_others_false, IsJustified, AreJustified}
use Rattle.prv_propagate.proofs.Signs.{and_true, has_literal-push, or_false}
use Rattle.prv_propagate.proofs.Walking.{within_take, front_more}
use Rattle.prv_propagate.proofs.Listing.{all-weaker}
use Rattle.prv_sat.specs.Marking.{is_except, AreMarkedToo}
use Rattle.prv_sat.specs.Analyses.{IsPartOf, IsDerived, IsUniquePoint, IsReach, IsLast}
use Rattle.prv_sat.proofs.Deriving.{derived_step, derived_less}

-- a front that has a literal of its last step more
front_cases : (steps : List Step) (at : ℕ) (x : Lit) → at < length steps → has_literal (trues (take (at + 1) steps)) x ≡ true → (has_literal (trues (take at steps)) x ≡ true) ⊎ (same_literal x (step_at steps at).lit ≡ true)
front_cases steps at x inside h =
    or_cases (has_literal (trues (take at steps)) x) (same_literal x (step_at steps at).lit) (sym (ap (λ (ls : List Lit). has_literal ls x) (front_more steps at inside) ∙ has_literal-push (trues (take at steps)) (step_at steps at).lit x) ∙ h)

front_part : (steps : List Step) (at : ℕ) → at < length steps → IsPartOf (trues (take at steps)) (trues (take (at + 1) steps))
front_part steps at inside x h =
    ap (λ (ls : List Lit). has_literal ls x) (front_more steps at inside) ∙ has_literal-push (trues (take at steps)) (step_at steps at).lit x ∙ or_left (has_literal (trues (take at steps)) x) (same_literal x (step_at steps at).lit) h

-- a step that is not marked is passed
pub passed : (cs : List (List Lit)) (steps : List Step) (at : ℕ) (marked : List Lit) (hs : List ℕ) → at < length steps → IsDerived cs (trues steps) (trues (take (at + 1) steps)) marked hs → has_literal marked (step_at steps at).lit ≡ false → IsDerived cs (trues steps) (trues (take at steps)) marked hs
passed cs steps at marked hs inside d unmarked =
    derived_less cs (trues steps) (trues (take (at + 1) steps)) (trues (take at steps)) marked hs d (λ x h. elim (front_cases steps at x inside (d.inside x h)) [
      | inl early ↦ early
      | inr last ↦ absurd (true≢false (sym h ∙ ap (λ (y : Lit). has_literal marked y) (same_literal-eq x (step_at steps at).lit last) ∙ unmarked))
    ]) (front_part steps at inside)

-- the reason of a step that is no decision
pub reason_of : (cs : List (List Lit)) (steps : List Step) (at : ℕ) → IsJustified cs (take at steps) (step_at steps at) → (IsDecision (step_at steps at) → ⊥) → ((step_at steps at).reason < length cs) × (is_reason (trues (take at steps)) (clause_of cs (step_at steps at).reason) (step_at steps at).lit ≡ true)
reason_of cs steps at (inl dec) implied = absurd (implied dec)
reason_of cs steps at (inr by) implied = by

-- a marked step is resolved
pub resolved : (cs : List (List Lit)) (t : Trailing) (at : ℕ) (marked between after : List Lit) (hs : List ℕ) → IsAssignment t → AreJustified cs t.steps → at < length t.steps → (IsDecision (step_at t.steps at) → ⊥) → IsDerived cs (trues t.steps) (trues (take (at + 1) t.steps)) marked hs → has_literal marked (step_at t.steps at).lit ≡ true → ((x : Lit) → has_literal between x ≡ (has_literal marked x && not (same_literal x (step_at t.steps at).lit))) → AreMarkedToo between (clause_of cs (step_at t.steps at).reason) (Some (step_at t.steps at).lit) after → IsDerived cs (trues t.steps) (trues (take at t.steps)) after ((step_at t.steps at).reason ∷ hs)
resolved cs t at marked between after hs assigned justified inside implied d here minus plus =
    let s = step_at t.steps at in
    let l = s.lit in
    let c = clause_of cs s.reason in
    let by = reason_of cs t.steps at (justified at inside) implied in
    let parts = and_parts (has_literal c l) (are_others_false (trues (take at t.steps)) c l) by.1 in
    let false_one : (y : Lit) → has_literal c y ≡ true → same_literal l y ≡ false → is_false (trues (take at t.steps)) y ≡ true = λ y h ne. elim (or_cases (same_literal l y) (is_false (trues (take at t.steps)) y) (all-has_literal (λ x. same_literal l x || is_false (trues (take at t.steps)) x) c y parts.1 h)) [
      | inl same ↦ absurd (true≢false (sym same ∙ ne))
      | inr early ↦ early
    ] in
    let from : (x : Lit) → has_literal after x ≡ true → ((has_literal marked x ≡ true) × (same_literal x l ≡ false)) ⊎ ((has_literal c (negate x) ≡ true) × (same_literal l (negate x) ≡ false)) = λ x h. elim (or_cases (has_literal between x) (has_literal c (negate x) && not (same_literal l (negate x))) (sym (plus x) ∙ h)) [
      | inl old ↦ let a = and_parts (has_literal marked x) (not (same_literal x l)) (sym (minus x) ∙ old) in inl (a.0, not-true (same_literal x l) a.1)
      | inr new ↦ let a = and_parts (has_literal c (negate x)) (not (same_literal l (negate x))) new in inr (a.0, not-true (same_literal l (negate x)) a.1)
    ] in
    derived_step cs (trues t.steps) (trues (take (at + 1) t.steps)) (trues (take at t.steps)) marked after hs s.reason l d assigned.consistent by.0 here parts.0
    (λ y h ne. plus (negate y) ∙ or_right (has_literal between (negate y)) (has_literal c (negate (negate y)) && not (same_literal l (negate (negate y)))) (and_from (has_literal c (negate (negate y))) (not (same_literal l (negate (negate y)))) (ap (λ (x : Lit). has_literal c x) (negate-negate y) ∙ h) (not_from_false (same_literal l (negate (negate y))) (ap (λ (x : Lit). same_literal l x) (negate-negate y) ∙ ne))))
    (λ x h ne. plus x ∙ or_left (has_literal between x) (has_literal c (negate x) && not (same_literal l (negate x))) (minus x ∙ and_from (has_literal marked x) (not (same_literal x l)) h (not_from_false (same_literal x l) ne)))
    (λ x h. elim (from x h) [ inl old ↦ inl old.0 | inr new ↦ inr new.0 ])
    (λ x h. elim (from x h) [
      | inl old ↦ elim (front_cases t.steps at x inside (d.inside x old.0)) [
        | inl early ↦ early
        | inr last ↦ absurd (true≢false (sym last ∙ old.1))
      ]
      | inr new ↦ ap (λ (y : Lit). has_literal (trues (take at t.steps)) y) (sym (negate-negate x)) ∙ false_one (negate x) new.0 new.1
    ])
    (front_part t.steps at inside)
    (assigned.once at inside)

pub or_second : (a b : Bool) → a ≡ false → (a || b) ≡ true → b ≡ true
or_second true b e h = absurd (true≢false e)
or_second false b e h = h

-- the negation of a false literal is of a variable
pub false_within : (t : Trailing) (l : Lit) → IsAssignment t → is_false (trues t.steps) l ≡ true → is_within t.vars (negate l) ≡ true
false_within t l assigned h = all-has_literal (is_within t.vars) (trues t.steps) (negate l) assigned.within h

-- the hints with one more, from last to first
pub reverse_push : (hs : List ℕ) (r : ℕ) → reverse (hs ++ r ∷ []) ≡ r ∷ reverse hs
reverse_push hs r = reverse-append hs (r ∷ [])

-- the marks with those of one literal more
pub marked_more : (old mid new lits : List Lit) (except : Option Lit) (i : ℕ) (d : Lit) → i < length lits → AreMarkedToo old (take i lits) except mid → ((x : Lit) → has_literal new x ≡ (has_literal mid x || (same_literal (negate x) (get_or lits i d) && not (is_except except (negate x))))) → AreMarkedToo old (take (i + 1) lits) except new
marked_more old mid new lits except i d inside before step x =
    let y = negate x in
    let more : has_literal (take (i + 1) lits) y ≡ (has_literal (take i lits) y || same_literal y (get_or lits i d)) = ap (λ (ls : List Lit). has_literal ls y) (take_more lits i d inside) ∙ has_literal-push (take i lits) (get_or lits i d) y in
    step x ∙ ap (λ b. b || (same_literal y (get_or lits i d) && not (is_except except y))) (before x)
    ∙ spread (has_literal old x) (has_literal (take i lits) y) (same_literal y (get_or lits i d)) (not (is_except except y))
    ∙ ap (λ b. has_literal old x || (b && not (is_except except y))) (sym more)
  where
    spread : (o h s n : Bool) → ((o || (h && n)) || (s && n)) ≡ (o || ((h || s) && n))
    spread true h s n = refl
    spread false true true true = refl
    spread false true true false = refl
    spread false true false n = or_false n ∙ refl
    spread false false s n = refl

-- a longer front has what a shorter one has
pub longer_front : (steps : List Step) (m n : ℕ) → m ≤ n → IsPartOf (trues (take m steps)) (trues (take n steps))
longer_front steps m n le x h = within_take m (take n steps) x (ap (λ (ss : List Step). has_literal (trues ss) x) (take-take m n steps le) ∙ h)

-- an analysis whose front is empty or everything
pub derived_whole : (cs : List (List Lit)) (steps : List Step) (marked : List Lit) (hs : List ℕ) (n : ℕ) → n ≡ length steps → IsDerived cs (trues steps) (trues steps) marked hs → IsDerived cs (trues steps) (trues (take n steps)) marked hs
derived_whole cs steps marked hs n e d = let all : take n steps ≡ steps = take_all n steps (omega (arith, e)) in subst (λ (ss : List Step). IsDerived cs (trues steps) (trues ss) marked hs) (sym all) d

pub derived_end : (cs : List (List Lit)) (steps : List Step) (marked : List Lit) (hs : List ℕ) (n : ℕ) → n ≡ 0 → IsDerived cs (trues steps) (trues (take n steps)) marked hs → IsDerived cs (trues steps) [] marked hs
derived_end cs steps marked hs n e d = subst (λ (k : ℕ). IsDerived cs (trues steps) (trues (take k steps)) marked hs) e d

pub derived_own : (cs : List (List Lit)) (trues bound marked : List Lit) (hs : List ℕ) → IsDerived cs trues bound marked hs → IsDerived cs trues marked marked hs
derived_own cs trues bound marked hs d = derived_less cs trues bound marked marked hs d (λ _ h. h) d.inside

-- one literal more that the steps reach
pub reach_more : (steps : List Step) (marked xs : List Lit) (lit d : Lit) (i keep more : ℕ) → i < length xs → ((x : Lit) → has_literal (take i xs) x ≡ true → has_literal marked x ≡ true → (x ≡ lit) ⊎ (has_literal (trues (take keep steps)) x ≡ true)) → (has_literal marked (get_or xs i d) ≡ true → (get_or xs i d ≡ lit) ⊎ (has_literal (trues (take more steps)) (get_or xs i d) ≡ true)) → (x : Lit) → has_literal (take (i + 1) xs) x ≡ true → has_literal marked x ≡ true → (x ≡ lit) ⊎ (has_literal (trues (take (max keep more) steps)) x ≡ true)
reach_more steps marked xs lit d i keep more inside before here x h m =
    elim (or_cases (has_literal (take i xs) x) (same_literal x (get_or xs i d)) (sym (ap (λ (ls : List Lit). has_literal ls x) (take_more xs i d inside) ∙ has_literal-push (take i xs) (get_or xs i d) x) ∙ h)) [
      | inl old ↦ elim (before x old m) [
        | inl one ↦ inl one
        | inr early ↦ inr (longer_front steps keep (max keep more) (omega arith) x early)
      ]
      | inr same ↦
          let e : x ≡ get_or xs i d = same_literal-eq x (get_or xs i d) same in
          elim (here (ap (λ (y : Lit). has_literal marked y) (sym e) ∙ m)) [
            | inl one ↦ inl (e ∙ one)
            | inr early ↦ inr (longer_front steps more (max keep more) (omega arith) x (ap (λ (y : Lit). has_literal (trues (take more steps)) y) e ∙ early))
          ]
    ]

pub last_max : (steps : List Step) (marked : List Lit) (lit : Lit) (keep more : ℕ) → IsLast steps marked lit keep → IsLast steps marked lit more → IsLast steps marked lit (max keep more)
last_max steps marked lit keep more a b some =
    elim (cases_lt keep more) [
      | inl less ↦ let r = b (omega arith) in (r.0, omega (arith, r.1), r.2, r.3)
      | inr least ↦ let r = a (omega arith) in (r.0, omega (arith, r.1), r.2, r.3)
    ]

-- the reason's other literals are false
pub others_false : (cs : List (List Lit)) (steps : List Step) (at : ℕ) → IsJustified cs (take at steps) (step_at steps at) → (IsDecision (step_at steps at) → ⊥) → list_all (λ x. is_except (Some (step_at steps at).lit) x || is_false (trues steps) x) (clause_of cs (step_at steps at).reason) ≡ true
others_false cs steps at justified implied =
    let l = (step_at steps at).lit in
    let c = clause_of cs (step_at steps at).reason in
    let by = reason_of cs steps at justified implied in
    let parts = and_parts (has_literal c l) (are_others_false (trues (take at steps)) c l) by.1 in
    all-weaker (λ x. same_literal l x || is_false (trues (take at steps)) x) (λ x. same_literal l x || is_false (trues steps) x) c (λ x h. elim (or_cases (same_literal l x) (is_false (trues (take at steps)) x) h) [
      | inl same ↦ or_left (same_literal l x) (is_false (trues steps) x) same
      | inr early ↦ or_right (same_literal l x) (is_false (trues steps) x) (within_take at steps (negate x) early)
    ]) parts.1

pub reason_inside : (cs : List (List Lit)) (steps : List Step) (at : ℕ) → IsJustified cs (take at steps) (step_at steps at) → (IsDecision (step_at steps at) → ⊥) → (step_at steps at).reason < length cs
reason_inside cs steps at justified implied = (reason_of cs steps at justified implied).0

-- the marks of a conflict alone
pub marked_alone : (old lits new c : List Lit) → old ≡ [] → lits ≡ c → AreMarkedToo old lits None new → (x : Lit) → has_literal new x ≡ has_literal c (negate x)
marked_alone old lits new c none e marks x =
    marks x ∙ ap (λ (ls : List Lit). has_literal ls x || (has_literal lits (negate x) && true)) none ∙ and_true (has_literal lits (negate x)) ∙ ap (λ (ls : List Lit). has_literal ls (negate x)) e

-- a unique implication point, where the others are reached before the decision
pub point_from : (steps : List Step) (marked : List Lit) (at base keep : ℕ) → at < length steps → has_literal marked (step_at steps at).lit ≡ true → base ≤ at → IsDecision (step_at steps base) → IsReach steps marked (step_at steps at).lit keep → keep ≤ base → IsUniquePoint steps marked (record { at = at; base = base })
point_from steps marked at base keep inside there le dec reached below = record {
  inside = inside;
  marked_there = there;
  base = le;
  decision = dec;
  others = λ l h. elim (reached.others l h) [
    | inl one ↦ inl one
    | inr early ↦ inr (longer_front steps keep base below l early)
  ];
}
