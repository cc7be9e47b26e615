-- Guards as the trail grows, and as it was before a decision.
use Rattle.std.proofs.Common.{◌≡◌, ◌⊎◌, true, false, not, ◌&&◌, ◌||◌, List, [], ◌∷◌, ◌++◌, sym, ap, inl, inr, ◌∙◌}
use Rattle.std.specs.List.{list_all}
use Rattle.std.proofs.lemmas.Bool.{or_cases, true≢false, or_right, or_left, and_parts, and_from, or_from, false_from_ne_true, not-true, not_from_false}
use Rattle.prv_cnf.specs.declared.literal.Lit.{Lit}
use Rattle.prv_cnf.specs.Literals.{negate, same_literal, has_literal}
use Rattle.prv_cnf.proofs.Values.{same_literal-eq, same_literal_refl, all-has_literal}
use Rattle.prv_check.specs.Propagation.{is_false}
use Rattle.prv_propagate.specs.declared.watches.Pair.{Pair}
use Rattle.prv_propagate.specs.Reasons.{is_satisfied}
use Rattle.prv_propagate.specs.Guards.{is_pair, is_free, is_guarded}
use Rattle.prv_propagate.specs.Soundness.{IsOther}
use Rattle.prv_propagate.proofs.Signs.{has_literal-push}

-- each literal of one list stands in another
abbrev pub IsWithin : List Lit → List Lit → Type 0
IsWithin xs ys = (l : Lit) → has_literal xs l ≡ true → has_literal ys l ≡ true

-- the literal of a list that is true makes the clause true
pub satisfied_from : (trues c : List Lit) (l : Lit) → has_literal c l ≡ true → has_literal trues l ≡ true → is_satisfied trues c ≡ true
satisfied_from trues [] l here there = absurd cc
satisfied_from trues (x ∷ xs) l here there =
    elim (or_cases (same_literal l x) (has_literal xs l) here) [
      | inl same ↦ or_left (has_literal trues x) (is_satisfied trues xs) (ap (λ (y : Lit). has_literal trues y) (sym (same_literal-eq l x same)) ∙ there)
      | inr later ↦ or_right (has_literal trues x) (is_satisfied trues xs) (satisfied_from trues xs l later there)
    ]

pub satisfied_by : (trues c : List Lit) → is_satisfied trues c ≡ true → (l : Lit) × (has_literal c l ≡ true) × (has_literal trues l ≡ true)
satisfied_by trues [] h = absurd cc
satisfied_by trues (x ∷ xs) h =
    elim (or_cases (has_literal trues x) (is_satisfied trues xs) h) [
      | inl here ↦ (x, or_left (same_literal x x) (has_literal xs x) (same_literal_refl x), here)
      | inr later ↦ let r = satisfied_by trues xs later in (r.0, or_right (same_literal r.0 x) (has_literal xs r.0) r.1, r.2)
    ]

pub satisfied_later : (xs ys c : List Lit) → IsWithin xs ys → is_satisfied xs c ≡ true → is_satisfied ys c ≡ true
satisfied_later xs ys c within h = let r = satisfied_by xs c h in satisfied_from ys c r.0 r.1 (within r.0 r.2)

pub unfalse_before : (xs ys : List Lit) (l : Lit) → IsWithin xs ys → is_false ys l ≡ false → is_false xs l ≡ false
unfalse_before xs ys l within h = false_from_ne_true (is_false xs l) (λ early. true≢false (sym (within (negate l) early) ∙ h))

-- the parts of a free pair
pub free_parts : (front : List Lit) (p : Pair) → is_free front p ≡ true → (same_literal p.first p.second ≡ false) × (is_false front p.first ≡ false) × (is_false front p.second ≡ false)
free_parts front p h =
    let a = and_parts (not (same_literal p.first p.second)) (not (is_false front p.first) && not (is_false front p.second)) h in
    let b = and_parts (not (is_false front p.first)) (not (is_false front p.second)) a.1 in
    (not-true (same_literal p.first p.second) a.0, not-true (is_false front p.first) b.0, not-true (is_false front p.second) b.1)

pub free_from : (front : List Lit) (p : Pair) → same_literal p.first p.second ≡ false → is_false front p.first ≡ false → is_false front p.second ≡ false → is_free front p ≡ true
free_from front p a b c =
    and_from (not (same_literal p.first p.second)) (not (is_false front p.first) && not (is_false front p.second)) (not_from_false (same_literal p.first p.second) a) (and_from (not (is_false front p.first)) (not (is_false front p.second)) (not_from_false (is_false front p.first) b) (not_from_false (is_false front p.second) c))

pub guarded_cases : (front trues c : List Lit) (p : Pair) → is_guarded front trues c p ≡ true → (is_satisfied trues c ≡ true) ⊎ (is_free front p ≡ true)
guarded_cases front trues c p h = or_cases (is_satisfied trues c) (is_free front p) h

pub guarded_satisfied : (front trues c : List Lit) (p : Pair) → is_satisfied trues c ≡ true → is_guarded front trues c p ≡ true
guarded_satisfied front trues c p h = or_left (is_satisfied trues c) (is_free front p) h

pub guarded_free : (front trues c : List Lit) (p : Pair) → is_free front p ≡ true → is_guarded front trues c p ≡ true
guarded_free front trues c p h = or_right (is_satisfied trues c) (is_free front p) h

-- more literals are true
pub guarded_later : (front xs ys c : List Lit) (p : Pair) → IsWithin xs ys → is_guarded front xs c p ≡ true → is_guarded front ys c p ≡ true
guarded_later front xs ys c p within h =
    elim (guarded_cases front xs c p h) [
      | inl true_one ↦ guarded_satisfied front ys c p (satisfied_later xs ys c within true_one)
      | inr free ↦ guarded_free front ys c p free
    ]

-- one literal more was propagated, which falsifies neither literal of the pair
pub guarded_past : (front trues c : List Lit) (p : Pair) (t : Lit) → (negate p.first ≡ t → ⊥) → (negate p.second ≡ t → ⊥) → is_guarded front trues c p ≡ true → is_guarded (front ++ t ∷ []) trues c p ≡ true
guarded_past front trues c p t a b h =
    elim (guarded_cases front trues c p h) [
      | inl true_one ↦ guarded_satisfied (front ++ t ∷ []) trues c p true_one
      | inr free ↦
          let f = free_parts front p free in
          guarded_free (front ++ t ∷ []) trues c p (free_from (front ++ t ∷ []) p f.0 (unfalse_push front p.first t a f.1) (unfalse_push front p.second t b f.2))
    ]
  where
    unfalse_push : (front : List Lit) (l t : Lit) → (negate l ≡ t → ⊥) → is_false front l ≡ false → is_false (front ++ t ∷ []) l ≡ false
    unfalse_push front l t apart h =
        has_literal-push front t (negate l) ∙ or_from (has_literal front (negate l)) (same_literal (negate l) t) h (false_from_ne_true (same_literal (negate l) t) (λ same. apart (same_literal-eq (negate l) t same)))

-- the parts of a pair of a clause
pub pair_parts : (c : List Lit) (p : Pair) → is_pair c p ≡ true → (has_literal c p.first ≡ true) × (has_literal c p.second ≡ true) × ((not (same_literal p.first p.second) || list_all (same_literal p.first) c) ≡ true)
pair_parts c p h =
    let a = and_parts (has_literal c p.first) (has_literal c p.second && (not (same_literal p.first p.second) || list_all (same_literal p.first) c)) h in
    let b = and_parts (has_literal c p.second) (not (same_literal p.first p.second) || list_all (same_literal p.first) c) a.1 in
    (a.0, b.0, b.1)

pub pair_from : (c : List Lit) (p : Pair) → has_literal c p.first ≡ true → has_literal c p.second ≡ true → same_literal p.first p.second ≡ false → is_pair c p ≡ true
pair_from c p a b e =
    and_from (has_literal c p.first) (has_literal c p.second && (not (same_literal p.first p.second) || list_all (same_literal p.first) c)) a (and_from (has_literal c p.second) (not (same_literal p.first p.second) || list_all (same_literal p.first) c) b (or_left (not (same_literal p.first p.second)) (list_all (same_literal p.first) c) (not_from_false (same_literal p.first p.second) e)))

-- the other literal of a pair stands in the clause
pub other_in : (c : List Lit) (p : Pair) (l other : Lit) → is_pair c p ≡ true → IsOther p l other → has_literal c other ≡ true
other_in c p l other paired (inl h) = ap (λ (x : Lit). has_literal c x) h.1 ∙ (pair_parts c p paired).1
other_in c p l other paired (inr h) = ap (λ (x : Lit). has_literal c x) h.1 ∙ (pair_parts c p paired).0

-- the other literal of a pair is another where a literal of the clause is not false
pub other_apart : (trues c : List Lit) (p : Pair) (l other free : Lit) → is_pair c p ≡ true → IsOther p l other → is_false trues l ≡ true → has_literal c free ≡ true → is_false trues free ≡ false → other ≡ l → ⊥
other_apart trues c p l other free paired which false_one here unfalse same =
    let both : same_literal p.first p.second ≡ true = same_pair p l other which same in
    let all : list_all (same_literal p.first) c ≡ true = elim (or_cases (not (same_literal p.first p.second)) (list_all (same_literal p.first) c) (pair_parts c p paired).2) [
      | inl apart ↦ absurd (true≢false (sym both ∙ not-true (same_literal p.first p.second) apart))
      | inr all ↦ all
    ] in
    let one : p.first ≡ free = same_literal-eq p.first free (all-has_literal (same_literal p.first) c free all here) in
    true≢false (sym false_one ∙ ap (λ (x : Lit). is_false trues x) (sym (first_is p l other which same) ∙ one) ∙ unfalse)
  where
    same_pair : (p : Pair) (l other : Lit) → IsOther p l other → other ≡ l → same_literal p.first p.second ≡ true
    same_pair p l other (inl h) e = let k : p.first ≡ p.second = h.0 ∙ sym e ∙ h.1 in rw k (same_literal_refl p.second)
    same_pair p l other (inr h) e = let k : p.first ≡ p.second = sym h.1 ∙ e ∙ sym h.0 in rw k (same_literal_refl p.second)

    first_is : (p : Pair) (l other : Lit) → IsOther p l other → other ≡ l → p.first ≡ l
    first_is p l other (inl h) e = h.0
    first_is p l other (inr h) e = sym h.1 ∙ e

-- a new first literal that is not false keeps what the old pair guarded, up to a front
pub guarded_anew : (front trues ends c : List Lit) (p q : Pair) (l : Lit) → IsWithin front ends → IsOther p l q.second → is_false ends q.first ≡ false → same_literal q.first q.second ≡ false → is_guarded front trues c p ≡ true → is_guarded front trues c q ≡ true
guarded_anew front trues ends c p q l within which unfalse apart h =
    elim (guarded_cases front trues c p h) [
      | inl true_one ↦ guarded_satisfied front trues c q true_one
      | inr free ↦ guarded_free front trues c q (free_from front q apart (unfalse_before front ends q.first within unfalse) (other_unfalse front p q.second l which (free_parts front p free)))
    ]
  where
    other_unfalse : (front : List Lit) (p : Pair) (other l : Lit) → IsOther p l other → (same_literal p.first p.second ≡ false) × (is_false front p.first ≡ false) × (is_false front p.second ≡ false) → is_false front other ≡ false
    other_unfalse front p other l (inl h) f = ap (λ (x : Lit). is_false front x) h.1 ∙ f.2
    other_unfalse front p other l (inr h) f = ap (λ (x : Lit). is_false front x) h.1 ∙ f.1
