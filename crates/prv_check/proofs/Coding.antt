-- The sets of literals over n variables, without a literal and its negation, as numbers below 3 to the
-- power of n: a digit a variable.
use Rattle.std.proofs.Common.{◌≡◌, ℕ, suc, zero, ◌+◌, ◌-◌, ◌*◌, ◌^◌, ◌<◌, ◌≤◌, Bool, true, false, not, List, [], ◌∷◌, ◌⊎◌, map, length, ℤ, pos, negsuc, unsigned_abs, refl, sym, ap, subst, ◌∙◌, inl, inr, arith, cond}
use Rattle.std.specs.Prelude.{nat_eq, nat_lt, nat_le}
use Rattle.std.specs.List.{list_any, list_all}
use Rattle.std.proofs.Math.Nat.{pow-suc}
use Rattle.std.proofs.lemmas.Bool.{or_cases, or_left, or_right, and_parts, and_from, cases_lt, ltb-true, lt-ltb, leb-true, eqb-true, true≢false, not-true}
use Rattle.std.proofs.lemmas.List.{length-map}
use Rattle.prv_cnf.specs.declared.literal.Lit.{Lit}
use Rattle.prv_cnf.specs.Literals.{variable, negate, same_literal, has_literal}
use Rattle.prv_cnf.proofs.Values.{same_literal-eq, same_literal_refl, same_number, negate-negate, all-has_literal}
use Rattle.prv_check.specs.Lines.{is_within, no_repeat, is_tautology}
use Rattle.prv_check.specs.Freshness.{contains_clause}
use Rattle.prv_check.specs.Spending.{are_distinct}
use Rattle.prv_check.proofs.Counting.{distinct_short, not_from}

-- the literal of a variable
abbrev positive : ℕ → Lit
positive k = record { 0 = pos k }

-- a digit by whether a literal is there, and its negation
abbrev sign : Bool → Bool → ℕ
sign here negated = cond here 1 (cond negated 2 0)

-- how a variable stands in a clause: not, as it is, or negated
abbrev digit : List Lit → ℕ → ℕ
digit c k = sign (has_literal c (positive k)) (has_literal c (negate (positive k)))

-- the number of a clause, by its first n variables
pub code : ℕ → List Lit → ℕ
code zero c = 0
code (suc k) c = code k c * 3 + digit c (suc k)

digit_small : (c : List Lit) (k : ℕ) → digit c k < 3
digit_small c k = by (has_literal c (positive k)) (has_literal c (negate (positive k)))
  where
    by : (a b : Bool) → sign a b < 3
    by true b = omega arith
    by false true = omega arith
    by false false = omega arith

pub code_small : (n : ℕ) (c : List Lit) → code n c < 3 ^ n
unfolding code
code_small zero c = omega arith
code_small (suc k) c =
    let e : 3 ^ suc k ≡ 3 ^ k * 3 = pow-suc 3 k in
    omega (arith, code_small k c, digit_small c (suc k))

pub code_none : (n : ℕ) → code n [] ≡ 0
unfolding code
code_none zero = refl
code_none (suc n) = omega (arith, code_none n)

-- clauses of one number have one digit at each variable
same_digits : (n : ℕ) (a b : List Lit) → code n a ≡ code n b → (k : ℕ) → 0 < k → k ≤ n → digit a k ≡ digit b k
unfolding code
same_digits zero a b e k some within = absurd (omega arith)
same_digits (suc n) a b e k some within =
    let both : (code n a ≡ code n b) × (digit a (suc n) ≡ digit b (suc n)) =
    (omega (arith, digit_small a (suc n), digit_small b (suc n)), omega (arith, digit_small a (suc n), digit_small b (suc n))) in
    elim (cases_lt k (suc n)) [
      | inl low ↦ same_digits n a b both.0 k some (omega arith)
      | inr high ↦
          let last : suc n ≡ k = omega arith in
          subst (λ (j : ℕ). digit a j ≡ digit b j) last both.1
    ]

-- a signed number is its absolute value or the negation of it
two_signs : (z : ℤ) (l : Lit) → l.0 ≡ z → (l ≡ positive (unsigned_abs z)) ⊎ (l ≡ negate (positive (unsigned_abs z)))
two_signs (pos k) l e = inl (same_number l (positive k) e)
two_signs (negsuc k) l e = inr (same_number l (negate (positive (suc k))) e)

-- a literal of a clause that has not its negation stands in each clause of the same digit
digit_tells : (a b : List Lit) (l : Lit) → has_literal a l ≡ true → has_literal a (negate l) ≡ false → digit a (variable l) ≡ digit b (variable l) → has_literal b l ≡ true
digit_tells a b l here gone same = by (two_signs l.0 l refl)
  where
    one : (p q : Bool) → sign p q ≡ 1 → p ≡ true
    one true q e = refl
    one false true e = absurd (omega arith)
    one false false e = absurd (omega arith)

    two : (p q : Bool) → sign p q ≡ 2 → q ≡ true
    two true q e = absurd (omega arith)
    two false true e = refl
    two false false e = absurd (omega arith)

    by : (l ≡ positive (variable l)) ⊎ (l ≡ negate (positive (variable l))) → has_literal b l ≡ true
    by (inl up) =
        let k : ℕ = variable l in
        let stands : has_literal a (positive k) ≡ true = ap (λ (x : Lit). has_literal a x) (sym up) ∙ here in
        let e : digit b k ≡ 1 = sym same ∙ (rw stands refl) in
        ap (λ (x : Lit). has_literal b x) up ∙ one (has_literal b (positive k)) (has_literal b (negate (positive k))) e
    by (inr down) =
        let k : ℕ = variable l in
        let up : negate l ≡ positive k = ap negate down ∙ negate-negate (positive k) in
        let no : has_literal a (positive k) ≡ false = ap (λ (x : Lit). has_literal a x) (sym up) ∙ gone in
        let stands : has_literal a (negate (positive k)) ≡ true = ap (λ (x : Lit). has_literal a x) (sym down) ∙ here in
        let e : digit b k ≡ 2 = sym same ∙ (rw (no, stands) refl) in
        ap (λ (x : Lit). has_literal b x) down ∙ two (has_literal b (positive k)) (has_literal b (negate (positive k))) e

any_false : (p : Lit → Bool) (ls : List Lit) (l : Lit) → list_any p ls ≡ false → has_literal ls l ≡ true → p l ≡ false
any_false p [] l none here = absurd cc
any_false p (x ∷ xs) l none here = grind (arith, same_literal-eq, any_false p xs l)

-- a clause without a literal and its negation is contained in each clause of its number
pub same_code : (n : ℕ) (a b : List Lit) → list_all (is_within n) a ≡ true → is_tautology a ≡ false → code n a ≡ code n b → contains_clause b a ≡ true
same_code n a b within plain same = go a (λ l here. here)
  where
    tells : (l : Lit) → has_literal a l ≡ true → has_literal b l ≡ true
    tells l here =
        let parts = and_parts (nat_lt 0 (variable l)) (nat_le (variable l) n) (all-has_literal (is_within n) a l within here) in
        digit_tells a b l here (any_false (λ x. has_literal a (negate x)) a l plain here)
        (same_digits n a b same (variable l) (ltb-true 0 (variable l) parts.0) (leb-true (variable l) n parts.1))

    go : (xs : List Lit) → ((l : Lit) → has_literal xs l ≡ true → has_literal a l ≡ true) → contains_clause b xs ≡ true
    go [] some = refl
    go (x ∷ xs) some =
        and_from (has_literal b x) (list_all (has_literal b) xs)
        (tells x (some x (or_left (same_literal x x) (has_literal xs x) (same_literal_refl x))))
        (go xs (λ l here. some l (or_right (same_literal l x) (has_literal xs l) here)))

-- the variables of a clause, from 0
abbrev variables : List Lit → List ℕ
variables c = map (λ l. variable l - 1) c

variables_below : (n : ℕ) (c : List Lit) → list_all (is_within n) c ≡ true → list_all (λ k. nat_lt k n) (variables c) ≡ true
variables_below n [] within = refl
variables_below n (l ∷ ls) within =
    let all = and_parts (is_within n l) (list_all (is_within n) ls) within in
    let parts = and_parts (nat_lt 0 (variable l)) (nat_le (variable l) n) all.0 in
    and_from (nat_lt (variable l - 1) n) (list_all (λ k. nat_lt k n) (variables ls))
    (lt-ltb (variable l - 1) n (omega (arith, ltb-true 0 (variable l) parts.0, leb-true (variable l) n parts.1)))
    (variables_below n ls all.1)

-- literals of one variable are the same, or one is the negation of the other
one_variable : (l m : Lit) → variable l ≡ variable m → (m ≡ l) ⊎ (m ≡ negate l)
one_variable l m e = by (two_signs l.0 l refl) (two_signs m.0 m refl)
  where
    up : positive (variable l) ≡ positive (variable m)
    up = ap positive e

    by : (l ≡ positive (variable l)) ⊎ (l ≡ negate (positive (variable l))) → (m ≡ positive (variable m)) ⊎ (m ≡ negate (positive (variable m))) → (m ≡ l) ⊎ (m ≡ negate l)
    by (inl a) (inl b) = inl (b ∙ sym up ∙ sym a)
    by (inl a) (inr b) = inr (b ∙ ap negate (sym up ∙ sym a))
    by (inr a) (inl b) = inr (b ∙ sym up ∙ sym (negate-negate (positive (variable l))) ∙ ap negate (sym a))
    by (inr a) (inr b) = inl (b ∙ ap negate (sym up) ∙ sym a)

-- where a variable stands among those of a list, a literal of it stands there
some_literal : (n : ℕ) (l : Lit) (ls : List Lit) → 0 < variable l → list_all (is_within n) ls ≡ true → list_any (nat_eq (variable l - 1)) (variables ls) ≡ true → (m : Lit) × (has_literal ls m ≡ true) × (variable l ≡ variable m)
some_literal n l [] some within here = absurd cc
some_literal n l (x ∷ xs) some within here =
    let all = and_parts (is_within n x) (list_all (is_within n) xs) within in
    let parts = and_parts (nat_lt 0 (variable x)) (nat_le (variable x) n) all.0 in
    elim (or_cases (nat_eq (variable l - 1) (variable x - 1)) (list_any (nat_eq (variable l - 1)) (variables xs)) here) [
      | inl first ↦
          let e : variable l - 1 ≡ variable x - 1 = eqb-true (variable l - 1) (variable x - 1) first in
          (x, or_left (same_literal x x) (has_literal xs x) (same_literal_refl x), omega (arith, ltb-true 0 (variable x) parts.0))
      | inr later ↦
          let (m, stands, e) = some_literal n l xs some all.1 later in
          (m, or_right (same_literal m x) (has_literal xs m) stands, e)
    ]

variables_distinct : (n : ℕ) (c : List Lit) → list_all (is_within n) c ≡ true → is_tautology c ≡ false → (ls : List Lit) → ((l : Lit) → has_literal ls l ≡ true → has_literal c l ≡ true) → list_all (is_within n) ls ≡ true → no_repeat ls ≡ true → are_distinct (variables ls) ≡ true
variables_distinct n c all plain [] some within once = refl
variables_distinct n c all plain (l ∷ ls) some within once =
    let parts = and_parts (is_within n l) (list_all (is_within n) ls) within in
    let low = and_parts (nat_lt 0 (variable l)) (nat_le (variable l) n) parts.0 in
    let apart = and_parts (not (has_literal ls l)) (no_repeat ls) once in
    let in_c : has_literal c l ≡ true = some l (or_left (same_literal l l) (has_literal ls l) (same_literal_refl l)) in
    let alone : list_any (nat_eq (variable l - 1)) (variables ls) ≡ true → ⊥ = λ here.
    let (m, stands, e) = some_literal n l ls (ltb-true 0 (variable l) low.0) parts.1 here in
    elim (one_variable l m e) [
      | inl same ↦ true≢false (sym (ap (λ (x : Lit). has_literal ls x) (sym same) ∙ stands) ∙ not-true (has_literal ls l) apart.0)
      | inr other ↦
          let there : has_literal c (negate l) ≡ true = ap (λ (x : Lit). has_literal c x) (sym other) ∙ some m (or_right (same_literal m l) (has_literal ls m) stands) in
          true≢false (sym there ∙ any_false (λ x. has_literal c (negate x)) c l plain in_c)
    ] in
    and_from (not (list_any (nat_eq (variable l - 1)) (variables ls))) (are_distinct (variables ls))
    (not_from (list_any (nat_eq (variable l - 1)) (variables ls)) alone)
    (variables_distinct n c all plain ls (λ x here. some x (or_right (same_literal x l) (has_literal ls x) here)) parts.1 apart.1)

-- a clause without repeats, and without a literal and its negation, has at most a literal a variable
pub few_literals : (n : ℕ) (c : List Lit) → list_all (is_within n) c ≡ true → no_repeat c ≡ true → is_tautology c ≡ false → length c ≤ n
few_literals n c within once plain =
    omega (
      arith,
      length-map c (λ (l : Lit). variable l - 1),
      distinct_short n (variables c) (variables_below n c within) (variables_distinct n c within plain c (λ l here. here) within once),
    )
