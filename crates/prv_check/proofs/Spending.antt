-- No log is spent where the budget has room for each line that could be fresh.
use Rattle.std.proofs.Common.{◌≡◌, ℕ, suc, zero, ◌+◌, ◌*◌, ◌^◌, ◌<◌, ◌≤◌, true, false, not, List, [], ◌∷◌, map, length, take, get_or, Option, None, Some, refl, sym, ap, subst, ◌∙◌, arith}
use Rattle.std.specs.Prelude.{nat_lt, slice_get, IfSome}
use Rattle.std.specs.List.{list_any, list_all}
use Rattle.std.proofs.Math.Nat.{mul-le-mul_right}
use Rattle.std.proofs.lemmas.Bool.{and_parts, or_right, true≢false, lt-ltb, not-true}
use Rattle.std.proofs.lemmas.List.{get_or-take, get_or-map, length-map, length-append, length-take-le, get_or_default}
use Rattle.std.proofs.lemmas.List.Folds.{list_any_at, list_any-append}
use Rattle.std.proofs.lemmas.Option.{slice_get_read}
use Rattle.prv_cnf.specs.declared.literal.Lit.{Lit}
use Rattle.prv_cnf.specs.Formulas.{Formula}
use Rattle.prv_check.specs.declared.fault.LineWhy.TheVariants.{BadLiteral, Repeat, Tautology}
use Rattle.prv_check.specs.LogLines.{LogLine, line_numbers}
use Rattle.prv_check.specs.Lines.{known, is_within, no_repeat, is_tautology, is_empty, clause_fault, line_fault}
use Rattle.prv_check.specs.Freshness.{contains_clause}
use Rattle.prv_check.specs.Spending.{are_distinct, IsLearnt, AreLearnt, log_numbers, IsSpent}
use Rattle.prv_check.proofs.Counting.{distinct_short, distinct_from_pairs}
use Rattle.prv_check.proofs.Coding.{code, code_none, code_small, same_code, few_literals}
use Rattle.prv_check.proofs.Passing.{passes, unless_none, or_none}

-- what the clause of a line has that follows
pub record IsPlain (n : ℕ) (c : List Lit) : Type 0 where
  pub within : list_all (is_within n) c ≡ true
  pub once : no_repeat c ≡ true
  pub plain : is_tautology c ≡ false

pub follows_plain : (f : Formula) (earlier : List LogLine) (s : LogLine) → line_fault f earlier s ≡ None → IsPlain f.vars s.clause
follows_plain f earlier s none =
    let clause = or_none (clause_fault f.vars s.clause) _ none in
    let a = unless_none (list_all (is_within f.vars) s.clause) BadLiteral _ clause.0 in
    let b = unless_none (no_repeat s.clause) Repeat _ a.1 in
    let c = unless_none (not (is_tautology s.clause)) Tautology _ b.1 in
    record { within = a.0; once = b.0; plain = not-true (is_tautology s.clause) c.0 }

-- the line of a log at a place
learnt_at : (f : Formula) (log : List LogLine) → AreLearnt f log → (j : ℕ) (d : LogLine) → j < length log → IsLearnt f (take j log) (get_or log j d)
learnt_at f log learnt j d inside =
    let line : LogLine = get_or log j d in
    let here : slice_get log j ≡ Some line = slice_get_read log (length log) j line refl inside (get_or_default log j d line inside) in
    subst (λ (o : Option LogLine). IfSome o (IsLearnt f (take j log))) here (learnt j)

pub known_length : (f : Formula) (earlier : List LogLine) → length (known f earlier) ≡ length f.clauses + length earlier
known_length f earlier =
    length-append f.clauses (map (λ s. s.clause) earlier) ∙ ap (λ (n : ℕ). length f.clauses + n) (length-map earlier (λ (s : LogLine). s.clause))

-- a line's numbers: at most a literal a variable, and a hint an earlier clause
pub few_numbers : (f : Formula) (earlier : List LogLine) (s : LogLine) → IsLearnt f earlier s → line_numbers s ≤ f.vars + (length f.clauses + length earlier) + 2
few_numbers f earlier s learnt =
    let plain = follows_plain f earlier s learnt.follows in
    let hints = (passes f earlier s learnt.follows).hints in
    let literals : length s.clause ≤ f.vars = few_literals f.vars s.clause plain.within plain.once plain.plain in
    let few : length s.hints ≤ length (known f earlier) = distinct_short (length (known f earlier)) s.hints hints learnt.distinct in
    omega (arith, known_length f earlier)

-- the numbers of the clauses, after that of the empty one
abbrev codes : ℕ → List LogLine → List ℕ
codes n log = 0 ∷ map (λ s. code n s.clause) log

codes_small : (n : ℕ) (log : List LogLine) → list_all (λ x. nat_lt x (3 ^ n)) (map (λ s. code n s.clause) log) ≡ true
codes_small n [] = refl
codes_small n (s ∷ log) = rw (lt-ltb (code n s.clause) (3 ^ n) (code_small n s.clause), codes_small n log) refl

-- a fresh line isn't empty
not_empty : (f : Formula) (earlier : List LogLine) (s : LogLine) → IsLearnt f earlier s → code f.vars s.clause ≡ 0 → ⊥
not_empty f earlier s learnt e =
    let plain = follows_plain f earlier s learnt.follows in
    let new = and_parts (not (is_empty s.clause)) _ learnt.fresh.0 in
    no_literal s.clause (same_code f.vars s.clause [] plain.within plain.plain (e ∙ sym (code_none f.vars))) (not-true (is_empty s.clause) new.0)
  where
    no_literal : (c : List Lit) → contains_clause [] c ≡ true → is_empty c ≡ false → ⊥
    no_literal [] contained filled = cc
    no_literal (l ∷ ls) contained filled = cc

-- a fresh line has not the literals of an earlier one
not_again : (f : Formula) (log : List LogLine) → AreLearnt f log → (d : LogLine) (i j : ℕ) → i < j → j < length log → code f.vars (get_or log i d).clause ≡ code f.vars (get_or log j d).clause → ⊥
not_again f log learnt d i j less inside e =
    let a : LogLine = get_or log i d in
    let b : LogLine = get_or log j d in
    let first = learnt_at f log learnt i d (omega arith) in
    let later = learnt_at f log learnt j d inside in
    let plain = follows_plain f (take i log) a first.follows in
    let contained : contains_clause b.clause a.clause ≡ true = same_code f.vars a.clause b.clause plain.within plain.plain e in
    let new = and_parts (not (is_empty b.clause)) (not (list_any (contains_clause b.clause) (known f (take j log)))) later.fresh.0 in
    let clauses : List (List Lit) = map (λ s. s.clause) (take j log) in
    let before : i < length (take j log) = omega (arith, length-take-le j log (omega arith)) in
    let at : get_or clauses i [] ≡ a.clause =
    get_or-map (λ (s : LogLine). s.clause) (take j log) i d [] before ∙ ap (λ (s : LogLine). s.clause) (get_or-take j log i d less) in
    let there : contains_clause b.clause (get_or clauses i []) ≡ true = ap (λ (c : List Lit). contains_clause b.clause c) at ∙ contained in
    let room : i < length clauses = omega (arith, length-map (take j log) (λ (s : LogLine). s.clause)) in
    let found : list_any (contains_clause b.clause) (known f (take j log)) ≡ true =
    list_any-append (contains_clause b.clause) f.clauses clauses
    ∙ or_right (list_any (contains_clause b.clause) f.clauses) (list_any (contains_clause b.clause) clauses) (list_any_at (contains_clause b.clause) clauses i [] room there) in
    true≢false (sym found ∙ not-true (list_any (contains_clause b.clause) (known f (take j log))) new.1)

code_at : (n : ℕ) (log : List LogLine) (i : ℕ) (d : LogLine) → i < length log → get_or (map (λ s. code n s.clause) log) i 0 ≡ code n (get_or log i d).clause
code_at n log i d inside = get_or-map (λ (s : LogLine). code n s.clause) log i d 0 inside

-- the numbers of fresh lines, and of the empty clause, are pairwise different
pairs : (f : Formula) (log : List LogLine) → AreLearnt f log → (d : LogLine) (i j : ℕ) → i < j → j < suc (length log) → get_or (codes f.vars log) i 0 ≡ get_or (codes f.vars log) j 0 → ⊥
pairs f log learnt d i zero less inside same = absurd (omega arith)
pairs f log learnt d zero (suc j) less inside same =
    let within : j < length log = omega arith in
    not_empty f (take j log) (get_or log j d) (learnt_at f log learnt j d within) (sym (code_at f.vars log j d within) ∙ sym same)
pairs f log learnt d (suc i) (suc j) less inside same =
    let before : i < j = omega arith in
    let within : j < length log = omega arith in
    let first : i < length log = omega arith in
    not_again f log learnt d i j before within (sym (code_at f.vars log i d first) ∙ same ∙ code_at f.vars log j d within)

-- there are fewer fresh lines than sets of literals
pub few_lines : (f : Formula) (log : List LogLine) → AreLearnt f log → length log + 1 ≤ 3 ^ f.vars
few_lines f log learnt =
    let n : ℕ = f.vars in
    let size : length (map (λ s. code n s.clause) log) ≡ length log = length-map log (λ (s : LogLine). code n s.clause) in
    let positive : 0 < 3 ^ n = omega (arith, code_small n []) in
    let below : list_all (λ x. nat_lt x (3 ^ n)) (codes n log) ≡ true = rw (lt-ltb 0 (3 ^ n) positive, codes_small n log) refl in
    let apart : are_distinct (codes n log) ≡ true =
    distinct_from_pairs (codes n log) (λ i j less inside. pairs f log learnt (record { clause = []; hints = [] }) i j less (omega arith)) in
    omega (arith, distinct_short (3 ^ n) (codes n log) below apart)

-- the numbers of lines that each have at most so many
numbers_le : (most : ℕ) (log : List LogLine) → ((k : ℕ) (d : LogLine) → k < length log → line_numbers (get_or log k d) ≤ most) → log_numbers log ≤ length log * most
numbers_le most [] few = omega arith
numbers_le most (s ∷ log) few =
    omega (arith, few 0 s (omega arith), numbers_le most log (λ k d inside. few (suc k) d (omega arith)))

pub ample_not_spent : (f : Formula) (log : List LogLine) (next : Option LogLine) (lines numbers : ℕ) → 3 ^ f.vars ≤ lines → 3 ^ f.vars * (f.vars + length f.clauses + 3 ^ f.vars + 2) ≤ numbers → IsSpent f log next lines numbers → ⊥
ample_not_spent f log None lines numbers enough room spent =
    let e : length log ≡ lines = spent.reached in
    omega (arith, few_lines f log spent.learnt)
ample_not_spent f log (Some s) lines numbers enough room spent =
    let sets : ℕ = 3 ^ f.vars in
    let most : ℕ = f.vars + length f.clauses + sets + 2 in
    let short : length log + 1 ≤ sets = few_lines f log spent.learnt in
    let each : (k : ℕ) (d : LogLine) → k < length log → line_numbers (get_or log k d) ≤ most = λ k d inside.
    omega (arith, few_numbers f (take k log) (get_or log k d) (learnt_at f log spent.learnt k d inside), length-take-le k log (omega arith)) in
    let all : log_numbers log ≤ length log * most = numbers_le most log each in
    let last : line_numbers s ≤ most = omega (arith, few_numbers f log s spent.reached.0) in
    let whole : (length log + 1) * most ≤ sets * most = mul-le-mul_right most short in
    let past : numbers < log_numbers log + line_numbers s = spent.reached.1 in
    omega arith
