-- How large a line can be that follows.
use Rattle.std.specs.Prelude.{ℕ, ◌+◌, ◌<◌, ◌≤◌, List, length, slice_get, IfSome, IsTrue}
use Rattle.std.specs.List.{AllByRecursion}
use Rattle.prv_cnf.specs.Formulas.{Formula, IsLiteral}
use Rattle.prv_check.specs.LogLines.{LogLine}
use Rattle.prv_check.specs.Spending.{are_distinct}

-- a line over so many variables and earlier clauses: its literals are of the variables and at most as many, its hints are numbers of the clauses and at most as many
pub record IsBounded (vars clauses : ℕ) (s : LogLine) : Type 0 where
  pub literals : AllByRecursion (IsLiteral vars) s.clause
  pub hints : AllByRecursion (λ n. n < clauses) s.hints
  pub few_literals : length s.clause ≤ vars
  pub few_hints : length s.hints ≤ clauses

-- the clauses of a formula and the lines before a line
abbrev pub known_count : Formula → List LogLine → ℕ
known_count f earlier = length f.clauses + length earlier

-- no line of the log names a clause twice among its hints
abbrev pub HasDistinctHints : List LogLine → Type 0
HasDistinctHints log = (k : ℕ) → IfSome (slice_get log k) (λ s. IsTrue (are_distinct s.hints))
