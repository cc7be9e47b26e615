-- The formula of a condition, and what it is to stand for one.
use Rattle.std.specs.Prelude.{◌≡◌, ℕ, ◌+◌, ◌*◌, ◌<◌, ◌≤◌, Bool, true, ◌↔◌, List, length, fold, ℤ}
use Rattle.prv_model.specs.Boards.{IsInput}
use Rattle.prv_model.specs.Terms.{holds}
use Rattle.prv_model.specs.declared.term.Term.{Term}
use Rattle.prv_cnf.specs.Formulas.{Formula}
use Rattle.prv_cnf.specs.Models.{IsModel}
use Rattle.prv_blast.specs.Inputs.{input_at}
use Rattle.prv_blast.specs.Subterms.{param_count, cost}
use Rattle.prv_blast.specs.Encodings.{Encoding, start, with_literal}

-- the literals are encoded one after another
unfoldable pub encoding : List Term → Encoding
encoding terms = fold with_literal (start (param_count terms)) terms

-- the formula of a condition, which is the list of its literals
abbrev pub formula : List Term → Formula
formula terms = (encoding terms).circuit.formula

-- a formula stands for a condition: an input of n words meets the condition exactly where the formula has a model whose first variables are the input's bits
abbrev pub StandsFor : ℕ → Formula → List Term → Type 0
StandsFor n f terms = (x : List ℤ) → IsInput n x → (holds terms x ≡ true) ↔ ((v : ℕ → Bool) × IsModel v f × (input_at n v ≡ x))

-- a formula is no larger than its condition costs
pub record IsWithinCost (n : ℕ) (f : Formula) (terms : List Term) : Type 0 where
  pub clauses : length f.clauses ≤ cost terms
  pub variables : f.vars ≤ 32 * n + cost terms
