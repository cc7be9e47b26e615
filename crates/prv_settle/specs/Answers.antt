-- What may be said of a condition: an input that meets it, a log that refutes it, or why neither was found.
use Rattle.std.specs.Prelude.{◌≡◌, ⊤, ℕ, ◌-◌, ◌<◌, ◌≤◌, true, List, length, drop, replicate, ℤ, pos, Some, None, MatchOption}
use Rattle.prv_model.specs.Boards.{IsInput}
use Rattle.prv_model.specs.Terms.{holds}
use Rattle.prv_model.specs.declared.entry.Reason.{Reason}
use Rattle.prv_model.specs.declared.entry.Reason.TheVariants.{Lines, Numbers, Clauses}
use Rattle.prv_model.specs.declared.term.Term.{Term}
use Rattle.prv_blast.specs.Formulas.{formula}
use Rattle.prv_blast.specs.Subterms.{cost, param_count}
use Rattle.prv_blast.specs.declared.formula.TheConstants.{MAX_CLAUSES}
use Rattle.prv_check.specs.Spending.{IsSpent}
use Rattle.prv_record.specs.declared.raw.Proof.{Proof}
use Rattle.prv_record.specs.declared.raw.Proof.TheVariants as p
use Rattle.prv_settle.specs.Probes.{first_probe}
use Rattle.prv_settle.specs.Grounds.{IsRefuted}
use Rattle.prv_settle.specs.declared.answer.Answer.{Answer}
use Rattle.prv_settle.specs.declared.answer.Answer.TheVariants.{Held, Refuted, Undecided}
use Rattle.prv_settle.specs.declared.limits.TheConstants.{MAX_LINES, MAX_NUMBERS}

-- what a reason says of a condition, by its proof: that a budget of lines or numbers was spent on its formula, or that its cost passes the limit
abbrev pub Explains : List Term → Reason → Proof → Type 0
Explains condition (Lines budget) (p.Spent log None) =
    (1 ≤ budget) × (budget ≤ MAX_LINES) × (cost condition ≤ MAX_CLAUSES) × IsSpent (formula condition) log None budget MAX_NUMBERS
Explains condition (Numbers lines) (p.Spent log (Some next)) =
    (lines ≡ length log) × (cost condition ≤ MAX_CLAUSES) × IsSpent (formula condition) log (Some next) lines MAX_NUMBERS
Explains condition (Clauses count) p.None = (count ≡ cost condition) × (MAX_CLAUSES < count)
Explains condition _ _ = ⊥

-- what is said of a condition on n words is true; nothing is left undecided that a probe decides
abbrev pub IsShown : ℕ → List Term → Answer → Type 0
IsShown n condition (Held x) = IsInput n x × (holds condition x ≡ true)
IsShown n condition (Refuted log) = IsRefuted condition log
IsShown n condition (Undecided why proof) = (first_probe n condition ≡ None) × Explains condition why proof

-- an input of n words that the solver was asked for, within its cost: the words past the parameters of the condition are 0
pub record IsSolved (n : ℕ) (condition : List Term) (x : List ℤ) : Type 0 where
  pub cheap : cost condition ≤ MAX_CLAUSES
  pub others : drop (param_count condition) x ≡ replicate (n - param_count condition) (pos 0)

-- it comes of a search with so many lines: the first probe is taken where there is one, else the solver is asked
abbrev pub IsFirst : ℕ → ℕ → List Term → Answer → Type 0
IsFirst n lines condition (Held x) = MatchOption (first_probe n condition) (IsSolved n condition x) (λ probe. x ≡ probe)
IsFirst n lines condition (Refuted log) = length log ≤ lines
IsFirst n lines condition (Undecided (Lines budget) proof) = budget ≡ lines
IsFirst n lines condition (Undecided (Numbers count) proof) = count < lines
IsFirst n lines condition (Undecided why proof) = ⊤

pub record IsSearched (n lines : ℕ) (condition : List Term) (answer : Answer) : Type 0 where
  pub shown : IsShown n condition answer
  pub first : IsFirst n lines condition answer
