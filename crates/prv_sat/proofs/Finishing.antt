-- Logs with a line more.
use Rattle.std.proofs.Common.{◌≡◌, ℕ, suc, zero, ◌+◌, ◌-◌, ◌<◌, ◌≤◌, true, List, [], ◌∷◌, ◌++◌, length, take, get_or, Option, None, Some, refl, ap, inl, inr, ◌∙◌, arith}
use Rattle.std.specs.Prelude.{slice_get, IfSome, IsTrue}
use Rattle.std.specs.Option.{option_and_then}
use Rattle.std.proofs.lemmas.Bool.{cases_lt}
use Rattle.std.proofs.lemmas.Option.{slice_get_past}
use Rattle.std.proofs.lemmas.List.{take_all, take-append-le, length_push}
use Rattle.prv_cnf.specs.Formulas.{Formula}
use Rattle.prv_check.specs.LogLines.{LogLine, line_numbers}
use Rattle.prv_check.specs.Lines.{line_fault, Follows}
use Rattle.prv_check.specs.Logs.{IsFaultless, ends_empty}
use Rattle.prv_check.specs.Spending.{are_distinct, IsLearnt, AreLearnt, log_numbers, IsSpent}
use Rattle.prv_sat.specs.Conclusions.{IsEnd}
use Rattle.prv_sat.proofs.Learning.{end_by}
use Rattle.prv_check.proofs.Spending.{ample_not_spent}
use Rattle.prv_sat.specs.declared.found.Found.{Found}
use Rattle.prv_sat.specs.declared.found.Found.TheVariants.{Values, Refuted, Spent}
use Rattle.prv_sat.specs.Findings.{IsRefutation, IsFound, IsAmple, IsDecided}

slice_get_left : (xs ys : List LogLine) (k : ℕ) → k < length xs → slice_get (xs ++ ys) k ≡ slice_get xs k
slice_get_left [] ys k h = absurd (omega arith)
slice_get_left (x ∷ xs) ys zero h = refl
slice_get_left (x ∷ xs) ys (suc k) h = slice_get_left xs ys k (omega arith)

slice_get_last : (xs : List LogLine) (s : LogLine) → slice_get (xs ++ s ∷ []) (length xs) ≡ Some s
slice_get_last [] s = refl
slice_get_last (x ∷ xs) s = slice_get_last xs s

-- each line has a property after those before it
abbrev pub EachLine : (List LogLine → LogLine → Type 0) → List LogLine → Type 0
EachLine P log = (k : ℕ) → IfSome (slice_get log k) (P (take k log))

pub each_push : (P : List LogLine → LogLine → Type 0) (log : List LogLine) (s : LogLine) → EachLine P log → P log s → EachLine P (log ++ s ∷ [])
each_push P log s each here k =
    elim (cases_lt k (length log)) [
      | inl early ↦ rw (slice_get_left log (s ∷ []) k early, take-append-le k log (s ∷ []) (omega arith)) (each k)
      | inr late ↦ elim (cases_lt (length log) k) [
        | inl past ↦ rw (slice_get_past (log ++ s ∷ []) k (omega (arith, length_push log s))) tt
        | inr last ↦
            let e : k ≡ length log = omega arith in
            rw (e, slice_get_last log s, take-append-le (length log) log (s ∷ []) (omega arith), take_all (length log) log (omega arith)) here
      ]
    ]

pub each_weaker : (P Q : List LogLine → LogLine → Type 0) (log : List LogLine) → ((ls : List LogLine) (s : LogLine) → P ls s → Q ls s) → EachLine P log → EachLine Q log
each_weaker P Q log h each k = go (slice_get log k) (each k)
  where
    go : (o : Option LogLine) → IfSome o (P (take k log)) → IfSome o (Q (take k log))
    go None x = tt
    go (Some s) x = h (take k log) s x

-- the lines follow
faultless : (f : Formula) (log : List LogLine) → EachLine (Follows f) log → IsFaultless (line_fault f) log
faultless f log each k = go (slice_get log k) (each k)
  where
    go : (o : Option LogLine) → IfSome o (Follows f (take k log)) → option_and_then (λ s. line_fault f (take k log) s) o ≡ None
    go None x = refl
    go (Some s) x = x

pub numbers_push : (log : List LogLine) (s : LogLine) → log_numbers (log ++ s ∷ []) ≡ log_numbers log + line_numbers s
numbers_push [] s = omega arith
numbers_push (x ∷ xs) s = let e = numbers_push xs s in omega arith

ends_push : (log : List LogLine) (s : LogLine) → s.clause ≡ [] → ends_empty (log ++ s ∷ []) ≡ true
ends_push [] s e = rw e refl
ends_push (x ∷ []) s e = rw e refl
ends_push (x ∷ (y ∷ ys)) s e = ends_push (y ∷ ys) s e

-- the lines with the empty line refute the formula
pub refutation : (f : Formula) (log : List LogLine) (s : LogLine) (lines numbers : ℕ) → AreLearnt f log → IsEnd f log s → log_numbers log ≤ numbers → length log < lines → IsRefutation f (log ++ s ∷ []) lines numbers
refutation f log s lines numbers learnt end within less = record {
  accepted = (faultless f (log ++ s ∷ []) (each_push (Follows f) log s (each_weaker (IsLearnt f) (Follows f) log (λ ls x h. h.follows) learnt) end.follows), ends_push log s end.empty);
  lines_within = omega (arith, length_push log s);
  numbers_within =
      let front : take (length (log ++ s ∷ []) - 1) (log ++ s ∷ []) ≡ log =
      ap (λ (n : ℕ). take n (log ++ s ∷ [])) (let e : length (log ++ s ∷ []) - 1 ≡ length log = omega (arith, length_push log s) in e) ∙ take-append-le (length log) log (s ∷ []) (omega arith) ∙ take_all (length log) log (omega arith) in
      rw front within;
  distinct = each_push (λ _ x. IsTrue (are_distinct x.hints)) log s (each_weaker (IsLearnt f) (λ _ x. IsTrue (are_distinct x.hints)) log (λ ls x h. h.distinct) learnt) end.distinct;
}

pub spent_numbers : (f : Formula) (log : List LogLine) (s : LogLine) (lines numbers : ℕ) → AreLearnt f log → IsLearnt f log s → log_numbers log ≤ numbers → numbers < log_numbers log + line_numbers s → IsSpent f log (Some s) lines numbers
spent_numbers f log s lines numbers learnt next within past = record { learnt = learnt; within = within; reached = (next, past) }

pub spent_lines : (f : Formula) (log : List LogLine) (lines numbers : ℕ) → AreLearnt f log → log_numbers log ≤ numbers → length log ≡ lines → IsSpent f log None lines numbers
spent_lines f log lines numbers learnt within all = record { learnt = learnt; within = within; reached = all }

-- an ample budget is not spent
pub decided_from : (f : Formula) (lines numbers : ℕ) (found : Found) → IsFound f lines numbers found → IsAmple f lines numbers → IsDecided found
decided_from f lines numbers (Values v) h ample = tt
decided_from f lines numbers (Refuted log) h ample = tt
decided_from f lines numbers (Spent log next) h ample = ample_not_spent f log next lines numbers ample.enough_lines ample.enough_numbers h.0

-- a clause without literals refutes the formula by one line
pub refutation_by : (f : Formula) (n lines numbers : ℕ) (log : List LogLine) → n < length f.clauses → get_or f.clauses n [] ≡ [] → 0 < lines → log ≡ record { clause = []; hints = n ∷ [] } ∷ [] → IsRefutation f log lines numbers
refutation_by f n lines numbers log inside none some e =
    rw e (refutation f [] (record { clause = []; hints = n ∷ [] }) lines numbers (λ k. tt) (end_by f n inside none) (omega arith) some)
