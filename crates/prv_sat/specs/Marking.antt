-- Sets of literals that are marked: a list of those that ever were, and a table of which still are.
use Rattle.std.specs.Prelude.{◌≡◌, ℕ, ◌+◌, ◌*◌, ◌≤◌, nat_eq, Option, None, Some, Bool, true, false, not, ◌&&◌, ◌||◌, List, length, slice_index_or}
use Rattle.std.specs.List.{list_all, filter}
use Rattle.prv_cnf.specs.declared.literal.Lit.{Lit}
use Rattle.prv_cnf.specs.declared.formula.TheConstants.{MAX_VARS}
use Rattle.prv_cnf.specs.Literals.{negate, same_literal, has_literal}
use Rattle.prv_check.specs.Lines.{is_within, no_repeat}
use Rattle.prv_cnf.specs.Places.{place_of}

-- how many variables there are, and the marked literals
pub record Marking : Type 0 where
  pub vars : ℕ
  pub marked : List Lit

-- whether a literal has the mark 1 in the table
abbrev pub is_marked : List ℕ → Lit → Bool
is_marked table l = nat_eq (slice_index_or table (place_of l) 0) 1

-- the literals of the list that still are marked
abbrev pub marked_of : List ℕ → List Lit → List Lit
marked_of table touched = filter (is_marked table) touched

-- the table has another mark than 0 exactly for the literals of the list, which has none twice
pub record AreMarks (n : ℕ) (table : List ℕ) (touched : List Lit) : Type 0 where
  pub small : n ≤ MAX_VARS
  pub places : length table ≡ 2 * n + 1
  pub marks : (l : Lit) → nat_eq (slice_index_or table (place_of l) 0) 0 ≡ not (has_literal touched l)
  pub within : list_all (is_within n) touched ≡ true
  pub once : no_repeat touched ≡ true

-- whether a literal is the one that is left out, if one is
abbrev pub is_except : Option Lit → Lit → Bool
is_except None l = false
is_except (Some e) l = same_literal e l

-- the marks with those of the negations of these literals, but for one
abbrev pub AreMarkedToo : List Lit → List Lit → Option Lit → List Lit → Type 0
AreMarkedToo old lits except new =
    (x : Lit) → has_literal new x ≡ (has_literal old x || (has_literal lits (negate x) && not (is_except except (negate x))))
