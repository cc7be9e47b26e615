-- How large lines and logs are that follow.
use Rattle.std.proofs.Common.{◌≡◌, ℕ, suc, zero, ◌+◌, ◌-◌, ◌<◌, ◌≤◌, Bool, true, false, List, [], ◌∷◌, length, take, get_or, Option, None, Some, refl, sym, ap, subst, ◌∙◌, arith}
use Rattle.std.specs.Prelude.{nat_lt, nat_le, slice_get, IfSome, IsTrue}
use Rattle.std.specs.List.{list_all, AllByRecursion}
use Rattle.std.specs.Option.{option_and_then}
use Rattle.std.proofs.lemmas.Bool.{and_parts, ltb-true, leb-true}
use Rattle.std.proofs.lemmas.List.{length-take-le, take_all, get_or_default}
use Rattle.std.proofs.lemmas.Option.{slice_get_read}
use Rattle.prv_cnf.specs.declared.literal.Lit.{Lit}
use Rattle.prv_cnf.specs.Literals.{variable}
use Rattle.prv_cnf.specs.Formulas.{Formula, IsLiteral}
use Rattle.prv_check.specs.LogLines.{LogLine, line_numbers}
use Rattle.prv_check.specs.Lines.{known, is_within, is_empty, line_fault, Follows}
use Rattle.prv_check.specs.Logs.{IsAccepted, IsFaultless, ends_empty}
use Rattle.prv_check.specs.Spending.{are_distinct, IsLearnt, AreLearnt, log_numbers}
use Rattle.prv_check.specs.Bounds.{IsBounded, HasDistinctHints, known_count}
use Rattle.prv_check.proofs.Counting.{distinct_short}
use Rattle.prv_check.proofs.Coding.{few_literals}
use Rattle.prv_check.proofs.Passing.{passes}
use Rattle.prv_check.proofs.Spending.{follows_plain, known_length}

-- literals that are within the variables, one by one
all_literals : (n : ℕ) (c : List Lit) → list_all (is_within n) c ≡ true → AllByRecursion (IsLiteral n) c
all_literals n [] within = tt
all_literals n (l ∷ ls) within =
    let all = and_parts (is_within n l) (list_all (is_within n) ls) within in
    let parts = and_parts (nat_lt 0 (variable l)) (nat_le (variable l) n) all.0 in
    ((ltb-true 0 (variable l) parts.0, leb-true (variable l) n parts.1), all_literals n ls all.1)

all_below : (n : ℕ) (xs : List ℕ) → list_all (λ x. nat_lt x n) xs ≡ true → AllByRecursion (λ x. x < n) xs
all_below n [] below = tt
all_below n (x ∷ xs) below =
    let all = and_parts (nat_lt x n) (list_all (λ x. nat_lt x n) xs) below in
    (ltb-true x n all.0, all_below n xs all.1)

pub bounded_line : (f : Formula) (earlier : List LogLine) (s : LogLine) → Follows f earlier s → IsTrue (are_distinct s.hints) → IsBounded f.vars (known_count f earlier) s
bounded_line f earlier s follows distinct =
    let plain = follows_plain f earlier s follows in
    let hints = (passes f earlier s follows).hints in
    let e : length (known f earlier) ≡ known_count f earlier = known_length f earlier in
    record {
      literals = all_literals f.vars s.clause plain.within;
      hints = subst (λ (n : ℕ). AllByRecursion (λ x. x < n) s.hints) e (all_below (length (known f earlier)) s.hints hints);
      few_literals = few_literals f.vars s.clause plain.within plain.once plain.plain;
      few_hints = omega (arith, e, distinct_short (length (known f earlier)) s.hints hints distinct);
    }

pub bounded_numbers : (f : Formula) (earlier : List LogLine) (s : LogLine) → Follows f earlier s → IsTrue (are_distinct s.hints) → line_numbers s ≤ f.vars + known_count f earlier + 2
bounded_numbers f earlier s follows distinct =
    let b = bounded_line f earlier s follows distinct in
    let few : length s.clause ≤ f.vars = b.few_literals in
    let hints : length s.hints ≤ known_count f earlier = b.few_hints in
    omega arith

-- a bounded line is so beside more clauses
all_lower : (m n : ℕ) (xs : List ℕ) → m ≤ n → AllByRecursion (λ x. x < m) xs → AllByRecursion (λ x. x < n) xs
all_lower m n [] less all = tt
all_lower m n (x ∷ xs) less all =
    let low : x < m = all.0 in
    (omega arith, all_lower m n xs less all.1)

wider : (v m n : ℕ) (s : LogLine) → m ≤ n → IsBounded v m s → IsBounded v n s
wider v m n s less b = record {
  literals = b.literals;
  hints = all_lower m n s.hints less b.hints;
  few_literals = b.few_literals;
  few_hints = let few : length s.hints ≤ m = b.few_hints in omega arith;
}

-- what holds of the line at each place holds of each line
all_from : (P : LogLine → Type 0) (log : List LogLine) → ((k : ℕ) → k < length log → IfSome (slice_get log k) P) → AllByRecursion P log
all_from P [] each = tt
all_from P (s ∷ log) each = (each 0 (omega arith), all_from P log (λ k inside. each (suc k) (omega arith)))

-- each line is bounded by the whole log where it follows and has distinct hints
bounded_lines : (f : Formula) (log : List LogLine) → ((k : ℕ) → IfSome (slice_get log k) (λ s. Follows f (take k log) s × IsTrue (are_distinct s.hints))) → AllByRecursion (IsBounded f.vars (known_count f log)) log
bounded_lines f log each = all_from (IsBounded f.vars (known_count f log)) log (λ k inside. go k inside (slice_get log k) (each k))
  where
    go : (k : ℕ) → k < length log → (o : Option LogLine) → IfSome o (λ s. Follows f (take k log) s × IsTrue (are_distinct s.hints)) → IfSome o (IsBounded f.vars (known_count f log))
    go k inside None h = tt
    go k inside (Some s) h =
        wider f.vars (known_count f (take k log)) (known_count f log) s (omega (arith, length-take-le k log (omega arith))) (bounded_line f (take k log) s h.0 h.1)

pub bounded_learnt : (f : Formula) (log : List LogLine) → AreLearnt f log → AllByRecursion (IsBounded f.vars (known_count f log)) log
bounded_learnt f log learnt = bounded_lines f log (λ k. go k (slice_get log k) (learnt k))
  where
    go : (k : ℕ) (o : Option LogLine) → IfSome o (IsLearnt f (take k log)) → IfSome o (λ s. Follows f (take k log) s × IsTrue (are_distinct s.hints))
    go k None h = tt
    go k (Some s) h = (h.follows, h.distinct)

each_follows : (f : Formula) (log : List LogLine) → IsAccepted f log → HasDistinctHints log → (k : ℕ) → IfSome (slice_get log k) (λ s. Follows f (take k log) s × IsTrue (are_distinct s.hints))
each_follows f log accepted distinct k = go (slice_get log k) (accepted.0 k) (distinct k)
  where
    go : (o : Option LogLine) → option_and_then (λ s. line_fault f (take k log) s) o ≡ None → IfSome o (λ s. IsTrue (are_distinct s.hints)) → IfSome o (λ s. Follows f (take k log) s × IsTrue (are_distinct s.hints))
    go None none h = tt
    go (Some s) none h = (none, h)

pub bounded_accepted : (f : Formula) (log : List LogLine) → IsAccepted f log → HasDistinctHints log → AllByRecursion (IsBounded f.vars (known_count f log)) log
bounded_accepted f log accepted distinct = bounded_lines f log (each_follows f log accepted distinct)

-- a log that ends empty has a last line, which has no literals
last_numbers : (count : ℕ) (log : List LogLine) → ends_empty log ≡ true → ((k : ℕ) → suc k ≡ length log → IfSome (slice_get log k) (λ s. length s.hints ≤ count)) → log_numbers log ≤ log_numbers (take (length log - 1) log) + count + 2
last_numbers count [] ends few = absurd cc
last_numbers count (s ∷ []) ends few =
    let hints : length s.hints ≤ count = few 0 (omega arith) in
    let none : length s.clause ≡ 0 = nothing s.clause ends in
    omega arith
  where
    nothing : (c : List Lit) → is_empty c ≡ true → length c ≡ 0
    nothing [] e = refl
    nothing (l ∷ ls) e = absurd cc
last_numbers count (s ∷ (t ∷ log)) ends few =
    let rest : log_numbers (t ∷ log) ≤ log_numbers (take (length (t ∷ log) - 1) (t ∷ log)) + count + 2 =
    last_numbers count (t ∷ log) ends (λ k e. few (suc k) (omega arith)) in
    let e : length (s ∷ (t ∷ log)) - 1 ≡ suc (length (t ∷ log) - 1) = omega arith in
    rw e (omega arith)

pub accepted_numbers : (f : Formula) (log : List LogLine) → IsAccepted f log → HasDistinctHints log → log_numbers log ≤ log_numbers (take (length log - 1) log) + known_count f log + 1
accepted_numbers f log accepted distinct = by log refl accepted.1
  where
    go : (k : ℕ) → suc k ≡ length log → (o : Option LogLine) → IfSome o (λ s. Follows f (take k log) s × IsTrue (are_distinct s.hints)) → IfSome o (λ s. length s.hints ≤ length f.clauses + (length log - 1))
    go k last None h = tt
    go k last (Some s) h =
        let few : length s.hints ≤ known_count f (take k log) = (bounded_line f (take k log) s h.0 h.1).few_hints in
        omega (arith, length-take-le k log (omega arith))

    by : (xs : List LogLine) → log ≡ xs → ends_empty log ≡ true → log_numbers log ≤ log_numbers (take (length log - 1) log) + known_count f log + 1
    by [] e ends = absurd (subst (λ (l : List LogLine). ends_empty l ≡ true → ⊥) (sym e) (λ no. cc) ends)
    by (s ∷ xs) e ends =
        let size : length log ≡ suc (length xs) = ap length e in
        let all = last_numbers (length f.clauses + (length log - 1)) log ends (λ k last. go k last (slice_get log k) (each_follows f log accepted distinct k)) in
        omega (arith, all)
