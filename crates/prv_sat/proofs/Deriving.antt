-- Steps of an analysis: a marked literal is replaced by those that imply it.
use Rattle.std.proofs.Common.{◌≡◌, ℕ, ◌<◌, ◌⊎◌, Bool, true, false, not, ◌&&◌, List, [], ◌∷◌, ◌++◌, length, eqb, ltb, filter, Option, None, Some, refl, sym, ap, inl, inr, ◌∙◌}
use Rattle.std.specs.List.{list_all, list_any}
use Rattle.std.specs.Option.{option_map_or}
use Rattle.std.proofs.lemmas.Bool.{or_cases, true≢false, cases_Bool, or_right, or_left, and_parts, and_from, or_from, false_from_ne_true, eqb-true, lt-ltb, not-true, not_from_false}
use Rattle.prv_cnf.specs.declared.literal.Lit.{Lit}
use Rattle.prv_cnf.specs.Literals.{negate, same_literal, has_literal}
use Rattle.prv_cnf.proofs.Values.{same_literal-eq, negate-negate, all-has_literal}
use Rattle.prv_check.specs.declared.fault.LineWhy.TheVariants.{NotUnit}
use Rattle.prv_check.specs.Propagation.{is_false, sole, unit_literal, hints_fault}
use Rattle.prv_check.specs.Lines.{clauses_at, is_empty}
use Rattle.prv_check.specs.Freshness.{stands_in, units_used}
use Rattle.prv_check.specs.Spending.{are_distinct}
use Rattle.prv_propagate.specs.Reasons.{clause_of}
use Rattle.prv_propagate.proofs.Signs.{has_literal-push, all-from_each}
use Rattle.prv_sat.specs.Analyses.{IsPartOf, IsDerived}
use Rattle.prv_sat.proofs.Marked.{filter_has}

-- the one literal of a list
sole_is : (ls : List Lit) (l : Lit) → has_literal ls l ≡ true → list_all (same_literal l) ls ≡ true → sole ls ≡ Some l
sole_is [] l here all = absurd cc
sole_is (x ∷ xs) l here all =
    let a = and_parts (same_literal l x) (list_all (same_literal l) xs) all in
    let same : l ≡ x = same_literal-eq l x a.0 in
    let rest : list_all (same_literal x) xs ≡ true = ap (λ (y : Lit). list_all (same_literal y) xs) (sym same) ∙ a.1 in
    rw rest (ap Some (sym same))

-- a clause is unit where all but one literal are false
pub unit_is : (ts c : List Lit) (l : Lit) → has_literal c l ≡ true → is_false ts l ≡ false → ((y : Lit) → has_literal c y ≡ true → same_literal l y ≡ false → is_false ts y ≡ true) → unit_literal ts c ≡ Some l
unit_is ts c l here open_one others =
    let q : Lit → Bool = λ y. not (is_false ts y) in
    let kept : has_literal (filter q c) l ≡ true = filter_has q c l ∙ and_from (q l) (has_literal c l) (not_from_false (is_false ts l) open_one) here in
    let only : list_all (same_literal l) (filter q c) ≡ true = all-from_each (same_literal l) (filter q c) (λ y h.
    let a = and_parts (q y) (has_literal c y) (sym (filter_has q c y) ∙ h) in
    elim (cases_Bool (same_literal l y)) [
      | inl same ↦ same
      | inr other ↦ absurd (true≢false (sym (others y a.1 other) ∙ not-true (is_false ts y) a.0))
    ]) in
    sole_is (filter q c) l kept only

-- a hint that is named again
hint_stands : (cs : List (List Lit)) (hs : List ℕ) (r : ℕ) (l : Lit) → list_any (eqb r) hs ≡ true → has_literal (clause_of cs r) l ≡ true → stands_in (clauses_at cs hs) l ≡ true
hint_stands cs [] r l h here = absurd cc
hint_stands cs (k ∷ ks) r l h here =
    elim (or_cases (eqb r k) (list_any (eqb r) ks) h) [
      | inl same ↦ or_left (has_literal (clause_of cs k) l) (stands_in (clauses_at cs ks) l) (ap (λ (n : ℕ). has_literal (clause_of cs n) l) (sym (eqb-true r k same)) ∙ here)
      | inr later ↦ or_right (has_literal (clause_of cs k) l) (stands_in (clauses_at cs ks) l) (hint_stands cs ks r l later here)
    ]

-- the first hint of a derivation is unit, and what follows it goes on
hint_more : (cs : List (List Lit)) (ts : List Lit) (r : ℕ) (hs : List ℕ) (l : Lit) → is_empty hs ≡ false → unit_literal ts (clause_of cs r) ≡ Some l → stands_in (clauses_at cs hs) (negate l) ≡ true → (hints_fault (ts ++ l ∷ []) (clauses_at cs hs) ≡ None) × (units_used (ts ++ l ∷ []) (clauses_at cs hs) ≡ true) → (hints_fault ts (clauses_at cs (r ∷ hs)) ≡ None) × (units_used ts (clauses_at cs (r ∷ hs)) ≡ true)
hint_more cs ts r [] l some unit used later = absurd cc
hint_more cs ts r (k ∷ ks) l some unit used later =
    let rest = clauses_at cs (k ∷ ks) in (
      ap (λ (o : Option Lit). option_map_or (λ x. hints_fault (ts ++ x ∷ []) rest) o (Some NotUnit)) unit ∙ later.0,
      ap (λ (o : Option Lit). option_map_or (λ x. stands_in rest (negate x) && units_used (ts ++ x ∷ []) rest) o true) unit ∙ and_from (stands_in rest (negate l)) (units_used (ts ++ l ∷ []) rest) used later.1,
    )

abbrev pub IsConsistent : List Lit → Type 0
IsConsistent trues = (l : Lit) → has_literal trues l ≡ true → is_false trues l ≡ false

-- a marked literal is replaced by those that imply it
pub derived_step : (cs : List (List Lit)) (trues bound less marked after : List Lit) (hs : List ℕ) (r : ℕ) (l : Lit) → IsDerived cs trues bound marked hs → IsConsistent trues → r < length cs → has_literal marked l ≡ true → has_literal (clause_of cs r) l ≡ true → ((y : Lit) → has_literal (clause_of cs r) y ≡ true → same_literal l y ≡ false → has_literal after (negate y) ≡ true) → ((x : Lit) → has_literal marked x ≡ true → same_literal x l ≡ false → has_literal after x ≡ true) → ((x : Lit) → has_literal after x ≡ true → (has_literal marked x ≡ true) ⊎ (has_literal (clause_of cs r) (negate x) ≡ true)) → IsPartOf after less → IsPartOf less bound → has_literal less l ≡ false → IsDerived cs trues less after (r ∷ hs)
derived_step cs trues bound less marked after hs r l d consistent known here there others stay from inside smaller gone =
    let c = clause_of cs r in
    let l_true : has_literal trues l ≡ true = d.bounded l (d.inside l here) in
    record {
      known = and_from (ltb r (length cs)) (list_all (λ n. ltb n (length cs)) hs) (lt-ltb r (length cs) known) d.known;
      some = refl;
      inside = inside;
      bounded = λ x h. d.bounded x (smaller x h);
      ends = λ ts part whole.
          let open_one : is_false ts l ≡ false = false_from_ne_true (is_false ts l) (λ no_more. true≢false (sym (whole (negate l) no_more) ∙ consistent l l_true)) in
          let unit = unit_is ts c l there open_one (λ y h ne. ap (λ (x : Lit). has_literal ts x) refl ∙ part (negate y) (others y h ne)) in
          let more : IsPartOf marked (ts ++ l ∷ []) = λ x h. has_literal-push ts l x ∙ elim (cases_Bool (same_literal x l)) [
            | inl same ↦ or_right (has_literal ts x) (same_literal x l) same
            | inr other ↦ or_left (has_literal ts x) (same_literal x l) (part x (stay x h other))
          ] in
          let all : IsPartOf (ts ++ l ∷ []) trues = λ x h. elim (or_cases (has_literal ts x) (same_literal x l) (sym (has_literal-push ts l x) ∙ h)) [
            | inl old ↦ whole x old
            | inr same ↦ ap (λ (y : Lit). has_literal trues y) (same_literal-eq x l same) ∙ l_true
          ] in
          hint_more cs ts r hs l d.some unit (d.used l here) (d.ends (ts ++ l ∷ []) more all);
      used = λ x h. elim (from x h) [
        | inl old ↦ or_right (has_literal c (negate x)) (stands_in (clauses_at cs hs) (negate x)) (d.used x old)
        | inr new ↦ or_left (has_literal c (negate x)) (stands_in (clauses_at cs hs) (negate x)) new
      ];
      apart = λ x h. or_from (has_literal c x) (stands_in (clauses_at cs hs) x) (false_from_ne_true (has_literal c x) (λ in_clause. elim (cases_Bool (same_literal l x)) [
        | inl same ↦ true≢false (sym h ∙ ap (λ (y : Lit). has_literal less y) (sym (same_literal-eq l x same)) ∙ gone)
        | inr other ↦ true≢false (sym (d.bounded (negate x) (smaller (negate x) (inside (negate x) (others x in_clause other)))) ∙ consistent x (d.bounded x (smaller x h)))
      ])) (d.apart x (smaller x h));
      distinct = and_from (not (list_any (eqb r) hs)) (are_distinct hs) (not_from_false (list_any (eqb r) hs) (false_from_ne_true (list_any (eqb r) hs) (λ again. true≢false (sym (hint_stands cs hs r l again there) ∙ d.apart l (d.inside l here))))) d.distinct;
    }

-- a smaller bound
pub derived_less : (cs : List (List Lit)) (trues bound less marked : List Lit) (hs : List ℕ) → IsDerived cs trues bound marked hs → IsPartOf marked less → IsPartOf less bound → IsDerived cs trues less marked hs
derived_less cs trues bound less marked hs d inside smaller = record {
  known = d.known;
  some = d.some;
  inside = inside;
  bounded = λ x h. d.bounded x (smaller x h);
  ends = d.ends;
  used = d.used;
  apart = λ x h. d.apart x (smaller x h);
  distinct = d.distinct;
}

-- the clause in conflict alone
pub derived_none : (cs : List (List Lit)) (trues marked : List Lit) (k : ℕ) → IsConsistent trues → k < length cs → list_all (is_false trues) (clause_of cs k) ≡ true → ((x : Lit) → has_literal marked x ≡ has_literal (clause_of cs k) (negate x)) → IsDerived cs trues trues marked (k ∷ [])
derived_none cs trues marked k consistent known false_all is =
    let c = clause_of cs k in
    let false_one : (y : Lit) → has_literal c y ≡ true → is_false trues y ≡ true = λ y h. all-has_literal (is_false trues) c y false_all h in
    record {
      known = and_from (ltb k (length cs)) true (lt-ltb k (length cs) known) refl;
      some = refl;
      inside = λ x h. ap (λ (y : Lit). has_literal trues y) (sym (negate-negate x)) ∙ false_one (negate x) (sym (is x) ∙ h);
      bounded = λ x h. h;
      ends = λ ts part whole.
          let all : list_all (is_false ts) c ≡ true = all-from_each (is_false ts) c (λ y h. part (negate y) (is (negate y) ∙ ap (λ (x : Lit). has_literal c x) (negate-negate y) ∙ h)) in
          (rw all refl, refl);
      used = λ x h. or_left (has_literal c (negate x)) false (sym (is x) ∙ h);
      apart = λ x h. or_from (has_literal c x) false (false_from_ne_true (has_literal c x) (λ in_clause. true≢false (sym (false_one x in_clause) ∙ consistent x h))) refl;
      distinct = refl;
    }
