-- Literals that are true, kept as a trail, beside a table of those that are false.
use Rattle.std.specs.Prelude.{◌≡◌, ℕ, ◌<◌, Bool, List, length}
use Rattle.prv_cnf.specs.declared.literal.Lit.{Lit}
use Rattle.prv_cnf.specs.Places.{place_of}
use Rattle.prv_check.specs.Propagation.{is_false}
use Rattle.prv_check.specs.Inner.Tables.{flag}

-- the count of variables that the table has places for, how many literals there is room for, and the
-- literals in the order in which they were made true
pub record Assigned : Type 0 where
  pub vars : ℕ
  pub room : ℕ
  pub trail : List Lit

-- the literals that are set in the table are those that the trail makes false, of those that have a place
abbrev pub AreFalse : List Bool → List Lit → Type 0
AreFalse table trail = (l : Lit) → place_of l < length table → flag table l ≡ is_false trail l
