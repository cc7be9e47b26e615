-- Formulas in conjunctive normal form.
use Rattle.std.specs.Prelude.{ℕ, ◌<◌, ◌≤◌, List}
use Rattle.std.specs.List.{AllByRecursion}
use Rattle.prv_cnf.specs.declared.literal.Lit.{Lit}
use Rattle.prv_cnf.specs.declared.formula.TheConstants.{MAX_VARS}
use Rattle.prv_cnf.specs.Literals.{variable}

-- how many variables a formula has, and its clauses
pub record Formula : Type 0 where
  pub vars : ℕ
  pub clauses : List (List Lit)

-- a literal of one of the first n variables
abbrev pub IsLiteral : ℕ → Lit → Type 0
IsLiteral n l = (0 < variable l) × (variable l ≤ n)

-- the count of variables is within its limit, and each literal is of one of them
abbrev pub IsFormula : Formula → Type 0
IsFormula f = (f.vars ≤ MAX_VARS) × AllByRecursion (AllByRecursion (IsLiteral f.vars)) f.clauses
