-- Tables by literal.
use Rattle.std.specs.Prelude.{◌<◌, ◌≡◌, Bool, false, true, List, length, slice_index_or}
use Rattle.std.specs.List.{list_all}
use Rattle.prv_cnf.specs.declared.literal.Lit.{Lit}
use Rattle.prv_cnf.specs.Literals.{has_literal}
use Rattle.prv_cnf.specs.Places.{place_of}

-- whether a literal's place in a table is set, where it has one
abbrev pub flag : List Bool → Lit → Bool
flag table l = slice_index_or table (place_of l) false

-- each of the literals has a place in the table, which is set
abbrev pub are_flagged : List Bool → List Lit → Bool
are_flagged table ls = list_all (flag table) ls

-- the places that are set are those of the literals
abbrev pub IsTableOf : List Bool → List Lit → Type 0
IsTableOf table ls = (l : Lit) → flag table l ≡ has_literal ls l

-- each of the literals that has a place in the table is set
abbrev pub AreFlagged : List Bool → List Lit → Type 0
AreFlagged table ls = (l : Lit) → has_literal ls l ≡ true → place_of l < length table → flag table l ≡ true
