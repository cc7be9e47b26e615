-- Lines that add something: a fresh line contains no earlier clause, and uses each of its literals
-- and hints.
use Rattle.std.specs.Prelude.{Option, None, IfSome, slice_get, take, ℕ, Bool, true, not, ◌&&◌, List, [], ◌∷◌, ◌++◌, map, IsTrue}
use Rattle.std.specs.List.{list_all, list_any}
use Rattle.std.specs.Option.{option_map_or, option_or}
use Rattle.prv_cnf.specs.declared.literal.Lit.{Lit}
use Rattle.prv_cnf.specs.Literals.{negate, has_literal}
use Rattle.prv_cnf.specs.Formulas.{Formula}
use Rattle.prv_check.specs.LogLines.{LogLine}
use Rattle.prv_check.specs.Propagation.{unit_literal}
use Rattle.prv_check.specs.Lines.{known, clauses_at, is_empty, unless, line_fault}
use Rattle.prv_check.specs.declared.fault.LineWhy.{LineWhy}
use Rattle.prv_check.specs.declared.fault.LineWhy.TheVariants.{Contains, Loose}

-- a clause contains another where each literal of the other stands in it
abbrev pub contains_clause : List Lit → List Lit → Bool
contains_clause c other = list_all (has_literal c) other

-- a line is new where it isn't empty and contains no clause of the formula and no earlier line
abbrev pub is_new : Formula → List LogLine → LogLine → Bool
is_new f earlier s = not (is_empty s.clause) && not (list_any (contains_clause s.clause) (known f earlier))

-- a literal stands in one of the clauses
abbrev pub stands_in : List (List Lit) → Lit → Bool
stands_in cs l = list_any (λ c. has_literal c l) cs

-- each literal that a clause before the last makes true has its negation in a later clause
abbrev pub units_used : List Lit → List (List Lit) → Bool
units_used trues [] = true
units_used trues (c ∷ []) = true
units_used trues (c ∷ (d ∷ cs)) =
    option_map_or (λ l. stands_in (d ∷ cs) (negate l) && units_used (trues ++ l ∷ []) (d ∷ cs)) (unit_literal trues c) true

-- each of these literals, the first of the first clause and so on, has its negation in a later clause
abbrev pub have_use : List Lit → List (List Lit) → Bool
have_use [] cs = true
have_use (u ∷ us) [] = true
have_use (u ∷ us) (c ∷ cs) = stands_in cs (negate u) && have_use us cs

-- a line is lean where each of its literals stands in one of its hints, and what the hints make true
-- is used
abbrev pub is_lean : Formula → List LogLine → LogLine → Bool
is_lean f earlier s =
    list_all (stands_in (clauses_at (known f earlier) s.hints)) s.clause
    && units_used (map negate s.clause) (clauses_at (known f earlier) s.hints)

-- a fresh line is new and lean
abbrev pub IsFresh : Formula → List LogLine → LogLine → Type 0
IsFresh f earlier s = IsTrue (is_new f earlier s) × IsTrue (is_lean f earlier s)

-- the first test that a line fails which is to follow and to be fresh
abbrev pub fresh_fault : Formula → List LogLine → LogLine → Option LineWhy
fresh_fault f earlier s =
    option_or (line_fault f earlier s)
    (unless (is_new f earlier s) Contains (unless (is_lean f earlier s) Loose None))

-- each line of the log is fresh
abbrev pub AreFresh : Formula → List LogLine → Type 0
AreFresh f log = (k : ℕ) → IfSome (slice_get log k) (IsFresh f (take k log))
