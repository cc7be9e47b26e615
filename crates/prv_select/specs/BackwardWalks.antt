-- The flat walk backward along the evaluations of a run, with the needed variables as a number that has a bit for each.
use Rattle.std.specs.Prelude.{ℕ, zero, suc, ◌-◌, nat_eq, Bool, true, false, ◌&&◌, ◌||◌, not, List, [], ◌∷◌, Option, Some, None, if◌then◌else◌, bit_and, bit_or}
use Rattle.std.specs.Int.{w64, bit_not}
use Rattle.prv_dep.specs.Tables.{row_at}
use Rattle.prv_dep.specs.declared.writes.Row.{Row}
use Rattle.prv_run.specs.declared.event.Event.{Event}
use Rattle.prv_run.specs.declared.event.What.{What}
use Rattle.prv_run.specs.declared.event.What.TheVariants as w
use Rattle.prv_select.specs.declared.places.Scope.{Scope}
use Rattle.prv_select.specs.declared.places.Place.{Place}
use Rattle.prv_select.specs.declared.walk.Walk.{Walk}
use Rattle.prv_select.specs.MarkSets.{both_marks}
use Rattle.prv_select.specs.Places.{place_at}

-- a statement may leave, or may write a variable that is needed
abbrev pub is_relevant : Row → ℕ → Bool
is_relevant row needed = row.leaves || not (nat_eq (bit_and row.writes needed) 0)

abbrev pub or_else : Option ℕ → Option ℕ → Option ℕ
or_else None other = other
or_else (Some k) other = Some k

-- the outermost `if` that isn't relevant, of so many from the nearest outward
abbrev pub outermost : List Place → List Row → ℕ → ℕ → Option ℕ → Option ℕ
outermost places rows needed zero nearest = None
outermost places rows needed (suc n) None = None
outermost places rows needed (suc n) (Some k) =
    or_else (outermost places rows needed n (place_at places k).outer.nearest) (if is_relevant (row_at rows k) needed then None else Some k)

-- the `if` that a walk passes over at an evaluation in this scope, if it does
abbrev pub skips : List Place → List Row → Walk → Scope → Option ℕ
skips places rows walk scope = or_else walk.skipped (outermost places rows walk.needed (scope.depth - walk.entered) scope.nearest)

-- a walk behind one evaluation, and whether it is kept
pub record Passed : Type 0 where
  pub walk : Walk
  pub kept : Bool

abbrev pub is_set : What → Bool
is_set w.Set = true
is_set _ = false

-- an evaluation set a variable
abbrev pub sets : Event → Bool
sets event = is_set event.what && event.safe

-- the variables that are needed before an evaluation that is kept: not those that it overwrote, but those that it reads
abbrev pub needs_before : Bool → Row → ℕ → ℕ
needs_before true row needed = bit_or (bit_and needed (bit_not w64 row.overwrites)) row.reads
needs_before false row needed = bit_or needed row.reads

-- an evaluation is kept unless it set a variable and isn't relevant
abbrev pub is_kept : Bool → Row → ℕ → Bool
is_kept set row needed = not set || is_relevant row needed

-- passing an evaluation that no `if` hides
abbrev pub chosen : Event → Row → Place → Walk → Passed
chosen event row here walk =
    if is_kept (sets event) row walk.needed then
    record { walk = record walk { needed = needs_before (sets event) row walk.needed; marks = both_marks walk.marks here.outer.marks }; kept = true }
    else record { walk = walk; kept = false }

-- passing an evaluation inside an `if` that is passed over, which ends with its test
abbrev pub passed_over : ℕ → Place → ℕ → Walk → Walk
passed_over stmt here skipped walk =
    if nat_eq stmt skipped then record walk { entered = here.outer.depth; skipped = None } else record walk { skipped = Some skipped }

abbrev pub passed_by : Option ℕ → Event → Row → Place → Walk → Passed
passed_by (Some skipped) event row here walk = record { walk = passed_over event.stmt here skipped walk; kept = false }
passed_by None event row here walk = chosen event row here (record walk { entered = here.outer.depth })

-- passing an evaluation
abbrev pub pass : List Place → List Row → Event → Walk → Passed
pass places rows event walk =
    let here = place_at places event.stmt in passed_by (skips places rows walk here.inner) event (row_at rows event.stmt) here walk

-- a walk before some evaluations, and whether each of them is kept
pub record Back : Type 0 where
  pub walk : Walk
  pub kept : List Bool

-- passing all evaluations, the last one first
abbrev pub back : List Place → List Row → List Event → Walk → Back
back places rows [] walk = record { walk = walk; kept = [] }
back places rows (event ∷ rest) walk =
    let later = back places rows rest walk in
    let one = pass places rows event later.walk in
    record { walk = one.walk; kept = one.kept ∷ later.kept }
