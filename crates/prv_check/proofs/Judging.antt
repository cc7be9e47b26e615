-- Lines that are good, one after another, up to the first that is bad.
use Rattle.std.proofs.Common.{◌≡◌, ℕ, ◌+◌, ◌<◌, ◌≤◌, Bool, true, false, List, [], ◌∷◌, length, take, Option, None, Some, refl, inl, inr, arith, below_more}
use Rattle.std.specs.Prelude.{nat_lt, slice_get, IfSome, IsTrue}
use Rattle.std.specs.List.{list_all}
use Rattle.std.specs.Option.{option_and_then}
use Rattle.std.proofs.lemmas.Bool.{cases_lt, and_parts, and_from, ltb-true, lt-ltb}
use Rattle.std.proofs.lemmas.Option.{slice_get_past}
use Rattle.prv_cnf.specs.Formulas.{Formula}
use Rattle.prv_check.specs.LogLines.{LogLine}
use Rattle.prv_check.specs.Lines.{known, line_fault}
use Rattle.prv_check.specs.Logs.{IsFaultless}
use Rattle.prv_check.specs.Freshness.{fresh_fault}
use Rattle.prv_check.specs.Spending.{are_distinct, IsLearnt}
use Rattle.prv_check.specs.Bounds.{HasDistinctHints}
use Rattle.prv_check.specs.BadLines.{IsDerived, AreGood, IsFirstBad}
use Rattle.prv_check.proofs.Passing.{passes, fresh_parts}

-- one more good line
pub good_more : (Good : List LogLine → LogLine → Type 0) (log : List LogLine) (i : ℕ) (s : LogLine) → AreGood Good log i → slice_get log i ≡ Some s → Good (take i log) s → AreGood Good log (i + 1)
good_more Good log i s before here good = below_more _ _ before (rw here good)

-- a bad line after good ones
pub bad_here : (Good : List LogLine → LogLine → Type 0) (log : List LogLine) (i : ℕ) (s : LogLine) → AreGood Good log i → slice_get log i ≡ Some s → (Good (take i log) s → ⊥) → IsFirstBad Good log i
bad_here Good log i s before here bad = record { before = before; bad = rw here bad }

-- all lines are good
pub good_all : (Good : List LogLine → LogLine → Type 0) (log : List LogLine) → AreGood Good log (length log) → (k : ℕ) → IfSome (slice_get log k) (Good (take k log))
good_all Good log before k =
    elim (cases_lt k (length log)) [
      | inl inside ↦ before k inside
      | inr after ↦ rw (slice_get_past log k (omega arith)) tt
    ]

-- lines that follow and name no clause twice
pub derived_faultless : (f : Formula) (log : List LogLine) → AreGood (IsDerived f) log (length log) → IsFaultless (line_fault f) log
derived_faultless f log good k = go (slice_get log k) (good_all (IsDerived f) log good k)
  where
    go : (o : Option LogLine) → IfSome o (IsDerived f (take k log)) → option_and_then (λ s. line_fault f (take k log) s) o ≡ None
    go None h = refl
    go (Some s) h = h.follows

pub derived_distinct : (f : Formula) (log : List LogLine) → AreGood (IsDerived f) log (length log) → HasDistinctHints log
derived_distinct f log good k = go (slice_get log k) (good_all (IsDerived f) log good k)
  where
    go : (o : Option LogLine) → IfSome o (IsDerived f (take k log)) → IfSome o (λ s. IsTrue (are_distinct s.hints))
    go None h = tt
    go (Some s) h = h.distinct

-- a line that follows names known clauses
pub derived_named : (f : Formula) (earlier : List LogLine) (s : LogLine) → IsDerived f earlier s → list_all (λ n. nat_lt n (length (known f earlier))) s.hints ≡ true
derived_named f earlier s h = (passes f earlier s h.follows).hints

-- a line is worth its numbers exactly where it passes the tests of fresh lines and names no clause twice
pub learnt_from : (f : Formula) (earlier : List LogLine) (s : LogLine) → fresh_fault f earlier s ≡ None → are_distinct s.hints ≡ true → IsLearnt f earlier s
learnt_from f earlier s none distinct =
    let both = fresh_parts f earlier s none in
    record { follows = both.0; fresh = both.1; distinct = distinct }

pub none_from_learnt : (f : Formula) (earlier : List LogLine) (s : LogLine) → IsLearnt f earlier s → fresh_fault f earlier s ≡ None
none_from_learnt f earlier s h = rw (h.follows, h.fresh.0, h.fresh.1) refl

pub learnt_named : (f : Formula) (earlier : List LogLine) (s : LogLine) → IsLearnt f earlier s → list_all (λ n. nat_lt n (length (known f earlier))) s.hints ≡ true
learnt_named f earlier s h = (passes f earlier s h.follows).hints

-- numbers below a count are below a greater one
pub all_below_more : (m n : ℕ) (xs : List ℕ) → m ≤ n → list_all (λ x. nat_lt x m) xs ≡ true → list_all (λ x. nat_lt x n) xs ≡ true
all_below_more m n [] less all = refl
all_below_more m n (x ∷ xs) less all =
    let parts = and_parts (nat_lt x m) (list_all (λ y. nat_lt y m) xs) all in
    let low : x < m = ltb-true x m parts.0 in
    and_from (nat_lt x n) (list_all (λ y. nat_lt y n) xs) (lt-ltb x n (omega arith)) (all_below_more m n xs less parts.1)
