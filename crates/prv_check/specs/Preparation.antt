-- What room was made for, before lines are tested without taking memory.
use Rattle.std.specs.Prelude.{ℕ}

-- the variables of the formula, the lines of a log, and the numbers of one of its lines
pub record Preparation : Type 0 where
  pub vars : ℕ
  pub lines : ℕ
  pub numbers : ℕ
