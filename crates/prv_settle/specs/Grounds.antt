-- What makes sure that no input meets a condition.
use Rattle.std.specs.Prelude.{ℕ, ◌-◌, ◌≤◌, Bool, ◌||◌, List, [], ◌∷◌, ◌++◌, length, take, ℤ, pos, slice_get, IfSome, IsTrue}
use Rattle.prv_model.specs.declared.program.Pair.{Pair}
use Rattle.prv_model.specs.declared.term.Term.{Term}
use Rattle.prv_pool.specs.Folding.{is_number, negation}
use Rattle.prv_pool.specs.Tables.{has_term}
use Rattle.prv_blast.specs.Formulas.{formula}
use Rattle.prv_blast.specs.Subterms.{cost}
use Rattle.prv_blast.specs.declared.formula.TheConstants.{MAX_CLAUSES}
use Rattle.prv_check.specs.LogLines.{LogLine}
use Rattle.prv_check.specs.Logs.{IsAccepted}
use Rattle.prv_check.specs.Spending.{are_distinct, log_numbers}
use Rattle.prv_part.specs.Literals.{decided_equality}
use Rattle.prv_part.specs.Parts.{partition}
use Rattle.prv_settle.specs.declared.limits.TheConstants.{MAX_NUMBERS}

-- a log refutes the formula of a condition, which is within the limit on its cost; no hint stands in a line twice, and the lines before the last are within the limit on numbers
pub record IsRefuted (condition : List Term) (log : List LogLine) : Type 0 where
  pub cheap : cost condition ≤ MAX_CLAUSES
  pub accepted : IsAccepted (formula condition) log
  pub distinct : (k : ℕ) → IfSome (slice_get log k) (λ s. IsTrue (are_distinct s.hints))
  pub few_numbers : log_numbers (take (length log - 1) log) ≤ MAX_NUMBERS

-- the partition of an input says by itself that the versions compare as they do at the input
abbrev pub is_granted : Pair → List Term → List ℤ → Bool
is_granted pair region t = is_number (pos 1) (decided_equality pair t) || has_term (partition pair region t) (decided_equality pair t)

-- the inputs of the partition on which they compare otherwise
abbrev pub other_part : Pair → List Term → List ℤ → List Term
other_part pair region t = partition pair region t ++ negation (decided_equality pair t) ∷ []
