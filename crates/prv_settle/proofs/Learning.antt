-- A line that is worth its numbers has at least five: a literal, two hints, and two counts.
use Rattle.std.proofs.Common.{◌≡◌, ℕ, suc, ◌*◌, ◌<◌, ◌≤◌, Bool, true, false, not, ◌&&◌, List, [], ◌∷◌, map, length, take, Option, None, Some, refl, sym, arith, if◌then◌else◌}
use Rattle.std.specs.Prelude.{nat_lt, slice_get, slice_index_or, IfSome}
use Rattle.std.specs.List.{list_any, list_all}
use Rattle.std.proofs.lemmas.Bool.{and_parts, ltb-true}
use Rattle.std.proofs.lemmas.List.Folds.{list_any_at}
use Rattle.prv_cnf.specs.declared.literal.Lit.{Lit}
use Rattle.prv_cnf.specs.Literals.{negate}
use Rattle.prv_cnf.specs.Formulas.{Formula}
use Rattle.prv_check.specs.declared.fault.LineWhy.TheVariants.{NotFalse}
use Rattle.prv_check.specs.LogLines.{LogLine, line_numbers}
use Rattle.prv_check.specs.Lines.{known, clauses_at, is_empty}
use Rattle.prv_check.specs.Propagation.{is_false, hints_fault}
use Rattle.prv_check.specs.Freshness.{contains_clause}
use Rattle.prv_check.specs.Spending.{IsLearnt, AreLearnt, log_numbers}
use Rattle.prv_check.proofs.Falsifying.{has_literal-negate}
use Rattle.prv_check.proofs.Passing.{passes}

-- a clause that is false where the literals of another are false stands in it
false-contained : (c d : List Lit) → list_all (is_false (map negate c)) d ≡ contains_clause c d
false-contained c [] = refl
false-contained c (l ∷ d) = λ i. has_literal-negate c l i && false-contained c d i

-- a clause that alone is hinted at is contained
one-hint : (c d : List Lit) → hints_fault (map negate c) (d ∷ []) ≡ None → contains_clause c d ≡ true
one-hint c d none = by (list_all (is_false (map negate c)) d) (false-contained c d) none
  where
    by : (z : Bool) → z ≡ contains_clause c d → (if z then None else Some NotFalse) ≡ None → contains_clause c d ≡ true
    by true is e = sym is
    by false is e = absurd (cc e)

-- a line that follows has a hint, and one that is fresh has no lone hint
hints-of : (c : List Lit) (cs : List (List Lit)) (hints : List ℕ) → list_all (λ n. nat_lt n (length cs)) hints ≡ true → hints_fault (map negate c) (clauses_at cs hints) ≡ None → list_any (contains_clause c) cs ≡ false → 2 ≤ length hints
hints-of c cs [] within none new = absurd (cc none)
hints-of c cs (n ∷ []) within none new =
    let below : n < length cs = ltb-true n (length cs) (and_parts (nat_lt n (length cs)) true within).0 in
    let found : list_any (contains_clause c) cs ≡ true = list_any_at (contains_clause c) cs n [] below (one-hint c (slice_index_or cs n []) none) in
    absurd (cc (found, new))
hints-of c cs (n ∷ (m ∷ hints)) within none new = omega arith

not-true : (z : Bool) → not z ≡ true → z ≡ false
not-true true e = cc e
not-true false e = refl

two-hints : (f : Formula) (earlier : List LogLine) (s : LogLine) → IsLearnt f earlier s → 2 ≤ length s.hints
two-hints f earlier s h =
    let p = passes f earlier s h.follows in
    let new = and_parts (not (is_empty s.clause)) (not (list_any (contains_clause s.clause) (known f earlier))) h.fresh.0 in
    hints-of s.clause (known f earlier) s.hints p.hints p.conflict (not-true (list_any (contains_clause s.clause) (known f earlier)) new.1)

some-literal : (c : List Lit) → not (is_empty c) ≡ true → 1 ≤ length c
some-literal [] e = absurd (cc e)
some-literal (l ∷ c) e = omega arith

one-literal : (f : Formula) (earlier : List LogLine) (s : LogLine) → IsLearnt f earlier s → 1 ≤ length s.clause
one-literal f earlier s h = some-literal s.clause (and_parts (not (is_empty s.clause)) (not (list_any (contains_clause s.clause) (known f earlier))) h.fresh.0).0

five : (f : Formula) (earlier : List LogLine) (s : LogLine) → IsLearnt f earlier s → 5 ≤ line_numbers s
five f earlier s h = omega (arith, two-hints f earlier s h, one-literal f earlier s h)

each-five : (log : List LogLine) → ((k : ℕ) → IfSome (slice_get log k) (λ s. 5 ≤ line_numbers s)) → 5 * length log ≤ log_numbers log
each-five [] h = omega arith
each-five (s ∷ log) h = omega (arith, h 0, each-five log (λ k. h (suc k)))

five-at : (f : Formula) (earlier : List LogLine) (o : Option LogLine) → IfSome o (IsLearnt f earlier) → IfSome o (λ s. 5 ≤ line_numbers s)
five-at f earlier None h = tt
five-at f earlier (Some s) h = five f earlier s h

pub long-log : (f : Formula) (log : List LogLine) → AreLearnt f log → 5 * length log ≤ log_numbers log
long-log f log h = each-five log (λ k. five-at f (take k log) (slice_get log k) (h k))
