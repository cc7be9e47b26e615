-- The lines of a log.
use Rattle.std.specs.Prelude.{ℕ, ◌+◌, List, length}
use Rattle.prv_cnf.specs.declared.literal.Lit.{Lit}

-- a clause, and the numbers of the earlier clauses that it follows from
pub record LogLine : Type 0 where
  pub clause : List Lit
  pub hints : List ℕ

-- how many numbers it takes to write a line down: its literals, its hints, and their two counts
abbrev pub line_numbers : LogLine → ℕ
line_numbers s = length s.clause + length s.hints + 2
