-- Unit propagation along the hints of a line: each hint in turn makes its one literal that isn't
-- false true, until the last hint has only false literals.
use Rattle.std.specs.Prelude.{Option, None, Some, Bool, not, List, [], ◌∷◌, ◌++◌, if◌then◌else◌}
use Rattle.std.specs.List.{filter, list_all}
use Rattle.std.specs.Option.{option_map_or}
use Rattle.prv_cnf.specs.declared.literal.Lit.{Lit}
use Rattle.prv_cnf.specs.Literals.{negate, same_literal, has_literal}
use Rattle.prv_check.specs.declared.fault.LineWhy.{LineWhy}
use Rattle.prv_check.specs.declared.fault.LineWhy.TheVariants.{NoHints, NotUnit, NotFalse}

-- a literal is false where its negation is among the literals that are true
abbrev pub is_false : List Lit → Lit → Bool
is_false trues l = has_literal trues (negate l)

-- the literals of a clause that aren't false
abbrev pub unfalsified : List Lit → List Lit → List Lit
unfalsified trues c = filter (λ l. not (is_false trues l)) c

-- the one literal of a list, however often it stands there
abbrev pub sole : List Lit → Option Lit
sole [] = None
sole (l ∷ ls) = if list_all (same_literal l) ls then Some l else None

-- the one literal of a clause that isn't false
abbrev pub unit_literal : List Lit → List Lit → Option Lit
unit_literal trues c = sole (unfalsified trues c)

-- the first fault of the clauses that the hints name: each but the last is to have one literal that
-- isn't false, which it makes true, and the last is to have none
abbrev pub hints_fault : List Lit → List (List Lit) → Option LineWhy
hints_fault trues [] = Some NoHints
hints_fault trues (c ∷ []) = if list_all (is_false trues) c then None else Some NotFalse
hints_fault trues (c ∷ (d ∷ cs)) =
    option_map_or (λ l. hints_fault (trues ++ l ∷ []) (d ∷ cs)) (unit_literal trues c) (Some NotUnit)

-- the literals that are true after the hints, up to the first that has a fault
abbrev pub trail_after : List Lit → List (List Lit) → List Lit
trail_after trues [] = trues
trail_after trues (c ∷ []) = trues
trail_after trues (c ∷ (d ∷ cs)) =
    option_map_or (λ l. trail_after (trues ++ l ∷ []) (d ∷ cs)) (unit_literal trues c) trues
