-- Numbers that are pairwise different and below a bound: how many there can be.
use Rattle.std.proofs.Common.{◌≡◌, ℕ, suc, zero, ◌<◌, ◌≤◌, Bool, true, false, not, ◌||◌, List, [], ◌∷◌, ◌++◌, length, take, get_or, refl, sym, ◌∙◌, inl, inr, arith}
use Rattle.std.specs.Prelude.{nat_eq, nat_lt, if◌then◌else◌}
use Rattle.std.specs.List.{list_any, list_all}
use Rattle.std.proofs.lemmas.Bool.{or_cases, or_left, or_right, and_parts, and_from, cases_eq, ltb-true, lt-ltb, eqb-true, eq-eqb, true≢false, false_from_ne_true, not-true, not_from_false}
use Rattle.std.proofs.Math.Bool.{and-false}
use Rattle.std.proofs.lemmas.List.{get_or_default}
use Rattle.std.proofs.lemmas.List.Folds.{Any-from_list_any, list_any_at, list_any-append}
use Rattle.prv_check.specs.Spending.{are_distinct}

pub not_from : (b : Bool) → (b ≡ true → ⊥) → not b ≡ true
not_from b h = not_from_false b (false_from_ne_true b h)

-- a list without the first place where a number stands
without : ℕ → List ℕ → List ℕ
without m [] = []
without m (x ∷ xs) = if nat_eq m x then xs else x ∷ without m xs

length_without : (m : ℕ) (xs : List ℕ) → length xs ≤ suc (length (without m xs))
unfolding without
length_without m [] = omega arith
length_without m (x ∷ xs) = by (nat_eq m x) (length_without m xs)
  where
    by : (b : Bool) → length xs ≤ suc (length (without m xs)) → length (x ∷ xs) ≤ suc (length (if b then xs else x ∷ without m xs))
    by true rest = omega arith
    by false rest = omega arith

any_without : (p : ℕ → Bool) (m : ℕ) (xs : List ℕ) → list_any p (without m xs) ≡ true → list_any p xs ≡ true
unfolding without
any_without p m [] here = here
any_without p m (x ∷ xs) here = by (nat_eq m x) (any_without p m xs) here
  where
    by : (b : Bool) → (list_any p (without m xs) ≡ true → list_any p xs ≡ true) → list_any p (if b then xs else x ∷ without m xs) ≡ true → list_any p (x ∷ xs) ≡ true
    by true rest there = or_right (p x) (list_any p xs) there
    by false rest there = elim (or_cases (p x) (list_any p (without m xs)) there) [
      | inl first ↦ or_left (p x) (list_any p xs) first
      | inr later ↦ or_right (p x) (list_any p xs) (rest later)
    ]

distinct_without : (m : ℕ) (xs : List ℕ) → are_distinct xs ≡ true → are_distinct (without m xs) ≡ true
unfolding without
distinct_without m [] distinct = refl
distinct_without m (x ∷ xs) distinct = by (nat_eq m x) (distinct_without m xs)
  where
    by : (b : Bool) → (are_distinct xs ≡ true → are_distinct (without m xs) ≡ true) → are_distinct (if b then xs else x ∷ without m xs) ≡ true
    by true rest = (and_parts (not (list_any (nat_eq x) xs)) (are_distinct xs) distinct).1
    by false rest =
        let parts = and_parts (not (list_any (nat_eq x) xs)) (are_distinct xs) distinct in
        and_from (not (list_any (nat_eq x) (without m xs))) (are_distinct (without m xs))
        (not_from (list_any (nat_eq x) (without m xs)) (λ here. true≢false (sym (any_without (nat_eq x) m xs here) ∙ not-true (list_any (nat_eq x) xs) parts.0)))
        (rest parts.1)

-- numbers up to m that aren't m are below it
below_without : (m : ℕ) (xs : List ℕ) → list_all (λ x. nat_lt x (suc m)) xs ≡ true → list_any (nat_eq m) xs ≡ false → list_all (λ x. nat_lt x m) xs ≡ true
below_without m [] all none = refl
below_without m (x ∷ xs) all none =
    let parts = and_parts (nat_lt x (suc m)) (list_all (λ x. nat_lt x (suc m)) xs) all in
    let low : x < suc m = ltb-true x (suc m) parts.0 in
    elim (cases_eq x m) [
      | inl same ↦ absurd (true≢false (sym (or_left (nat_eq m x) (list_any (nat_eq m) xs) (eq-eqb m x (sym same))) ∙ none))
      | inr other ↦
          and_from (nat_lt x m) (list_all (λ x. nat_lt x m) xs)
          (lt-ltb x m (omega arith))
          (below_without m xs parts.1 (false_from_ne_true (list_any (nat_eq m) xs) (λ here. true≢false (sym (or_right (nat_eq m x) (list_any (nat_eq m) xs) here) ∙ none))))
    ]

all_without : (m : ℕ) (xs : List ℕ) → list_all (λ x. nat_lt x (suc m)) xs ≡ true → are_distinct xs ≡ true → list_all (λ x. nat_lt x m) (without m xs) ≡ true
unfolding without
all_without m [] all distinct = refl
all_without m (x ∷ xs) all distinct = by (nat_eq m x) refl (all_without m xs)
  where
    by : (b : Bool) → nat_eq m x ≡ b → (list_all (λ x. nat_lt x (suc m)) xs ≡ true → are_distinct xs ≡ true → list_all (λ x. nat_lt x m) (without m xs) ≡ true) → list_all (λ x. nat_lt x m) (if b then xs else x ∷ without m xs) ≡ true
    by true same rest =
        let e : m ≡ x = eqb-true m x same in
        let parts = and_parts (not (list_any (nat_eq x) xs)) (are_distinct xs) distinct in
        let tail = and_parts (nat_lt x (suc m)) (list_all (λ x. nat_lt x (suc m)) xs) all in
        below_without m xs tail.1 (rw e (not-true (list_any (nat_eq x) xs) parts.0))
    by false other rest =
        let parts = and_parts (not (list_any (nat_eq x) xs)) (are_distinct xs) distinct in
        let tail = and_parts (nat_lt x (suc m)) (list_all (λ x. nat_lt x (suc m)) xs) all in
        let low : x < suc m = ltb-true x (suc m) tail.0 in
        let unlike : m ≡ x → ⊥ = λ e. true≢false (sym (eq-eqb m x e) ∙ other) in
        and_from (nat_lt x m) (list_all (λ x. nat_lt x m) (without m xs))
        (lt-ltb x m (omega arith)) (rest tail.1 parts.1)

-- numbers below n, pairwise different, are at most n
pub distinct_short : (n : ℕ) (xs : List ℕ) → list_all (λ x. nat_lt x n) xs ≡ true → are_distinct xs ≡ true → length xs ≤ n
distinct_short zero [] all distinct = omega arith
distinct_short zero (x ∷ xs) all distinct =
    let low = and_parts (nat_lt x 0) (list_all (λ x. nat_lt x 0) xs) all in
    absurd (omega (arith, ltb-true x 0 low.0))
distinct_short (suc m) xs all distinct =
    omega (arith, length_without m xs, distinct_short m (without m xs) (all_without m xs all distinct) (distinct_without m xs distinct))

-- numbers are pairwise different where none is one that comes later
pub distinct_from_pairs : (xs : List ℕ) → ((i j : ℕ) → i < j → j < length xs → get_or xs i 0 ≡ get_or xs j 0 → ⊥) → are_distinct xs ≡ true
distinct_from_pairs [] pairs = refl
distinct_from_pairs (x ∷ xs) pairs =
    and_from (not (list_any (nat_eq x) xs)) (are_distinct xs)
    (not_from (list_any (nat_eq x) xs) (λ here.
    let (j, y, inside, at_j, same) = Any-from_list_any (nat_eq x) xs here in
    pairs 0 (suc j) (omega arith) (omega arith) (eqb-true x y same ∙ sym at_j ∙ get_or_default xs j y 0 inside)))
    (distinct_from_pairs xs (λ i j less inside same. pairs (suc i) (suc j) (omega arith) (omega arith) same))

-- a number more at the end
pub distinct_more : (xs : List ℕ) (x : ℕ) → are_distinct xs ≡ true → list_any (nat_eq x) xs ≡ false → are_distinct (xs ++ x ∷ []) ≡ true
distinct_more [] x distinct none = refl
distinct_more (y ∷ ys) x distinct none =
    let parts = and_parts (not (list_any (nat_eq y) ys)) (are_distinct ys) distinct in
    let other : nat_eq x y ≡ true → ⊥ = λ same. true≢false (sym (or_left (nat_eq x y) (list_any (nat_eq x) ys) same) ∙ none) in
    let rest : list_any (nat_eq x) ys ≡ false = false_from_ne_true (list_any (nat_eq x) ys) (λ here. true≢false (sym (or_right (nat_eq x y) (list_any (nat_eq x) ys) here) ∙ none)) in
    let alone : list_any (nat_eq y) (ys ++ x ∷ []) ≡ true → ⊥ = λ here.
    elim (or_cases (list_any (nat_eq y) ys) (nat_eq y x || false) (sym (list_any-append (nat_eq y) ys (x ∷ [])) ∙ here)) [
      | inl before ↦ true≢false (sym before ∙ not-true (list_any (nat_eq y) ys) parts.0)
      | inr last ↦ elim (or_cases (nat_eq y x) false last) [
        | inl same ↦ other (eq-eqb x y (sym (eqb-true y x same)))
        | inr nothing ↦ true≢false (sym nothing)
      ]
    ] in
    and_from (not (list_any (nat_eq y) (ys ++ x ∷ []))) (are_distinct (ys ++ x ∷ []))
    (not_from (list_any (nat_eq y) (ys ++ x ∷ [])) alone) (distinct_more ys x parts.1 rest)

-- a number that stands before its place
pub repeated_at : (xs : List ℕ) (i : ℕ) → i < length xs → list_any (nat_eq (get_or xs i 0)) (take i xs) ≡ true → are_distinct xs ≡ false
repeated_at [] i inside here = absurd (omega arith)
repeated_at (x ∷ xs) zero inside here = absurd cc
repeated_at (x ∷ xs) (suc i) inside here =
    elim (or_cases (nat_eq (get_or xs i 0) x) (list_any (nat_eq (get_or xs i 0)) (take i xs)) here) [
      | inl first ↦
          let stands : list_any (nat_eq x) xs ≡ true = list_any_at (nat_eq x) xs i 0 (omega arith) (eq-eqb x (get_or xs i 0) (sym (eqb-true (get_or xs i 0) x first))) in
          rw stands refl
      | inr later ↦ rw (repeated_at xs i (omega arith) later) (and-false (not (list_any (nat_eq x) xs)))
    ]
