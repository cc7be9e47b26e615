-- Which evaluations of a run its slice keeps. It goes backward, with the set of the variables whose values are needed.
use Rattle.std.specs.Prelude.{ℕ, zero, suc, ◌+◌, nat_eq, Bool, true, false, ◌&&◌, ◌||◌, not, List, [], ◌∷◌, ◌++◌, replicate, Option, Some, ℤ, if◌then◌else◌, filter}
use Rattle.std.specs.List.{list_any}
use Rattle.std.specs.Option.{option_map}
use Rattle.prv_model.specs.declared.expr.Expr.{Expr}
use Rattle.prv_model.specs.declared.stmt.Stmt.{Stmt}
use Rattle.prv_dep.specs.Dependences.{has, vars, may_fault, may_leave, writes, branch_any, branch_list}
use Rattle.prv_run.specs.Runs.{Run, Use}

-- the needed variables with those of an expression, and without one that is set
abbrev pub with_vars : Expr → (ℕ → Bool) → ℕ → Bool
with_vars e needed v = needed v || has (vars e) v

abbrev pub without : ℕ → (ℕ → Bool) → ℕ → Bool
without var needed v = not (nat_eq var v) && needed v

-- what is needed before a run, whether each of its evaluations is kept, and which marks contribute
pub record Chosen : Type 0 where
  pub needed : ℕ → Bool
  pub kept : List Bool
  pub marks : ℕ → Bool

abbrev pub no_mark : ℕ → Bool
no_mark m = false

-- an evaluation is kept unless it sets a variable that isn't needed and may not fault
abbrev pub keeps : Use → Expr → Option ℤ → (ℕ → Bool) → Bool
keeps (Use.Sets var) e (Some n) needed = needed var || may_fault e
keeps _ e _ needed = true

-- what is needed of the variables before an evaluation that is kept
abbrev pub needs : Use → Expr → Option ℤ → (ℕ → Bool) → ℕ → Bool
needs (Use.Sets var) e (Some n) needed = with_vars e (without var needed)
needs _ e _ needed = with_vars e needed

-- an `if` matters where it may leave, its test included, or may write a needed variable
abbrev pub matters : Expr → Stmt → Option Stmt → (ℕ → Bool) → Bool
matters test chosen other needed =
    (may_fault test || (may_leave chosen || branch_any (option_map (λ s. may_leave s) other)))
    || list_any needed (writes chosen ++ branch_list (option_map (λ s. writes s) other))

-- how many evaluations a run has
abbrev pub count : Run → ℕ
count Run.Idle = 0
count (Run.Eval k why e v) = 1
count (Run.Then a b) = count a + count b
count (Run.Choice k test chosen other inner) = count inner
count (Run.Mark mark inner) = count inner

-- one run and then another
abbrev pub before : Chosen → Chosen → Chosen
before a b = record { needed = a.needed; kept = a.kept ++ b.kept; marks = λ m. a.marks m || b.marks m }

-- the choice in a run, where these variables are needed behind it
abbrev pub choose : Run → (ℕ → Bool) → Chosen
choose Run.Idle needed = record { needed = needed; kept = []; marks = no_mark }
choose (Run.Eval k why e v) needed =
    if keeps why e v needed then record { needed = needs why e v needed; kept = true ∷ []; marks = no_mark }
    else record { needed = needed; kept = false ∷ []; marks = no_mark }
choose (Run.Then a b) needed = let later = choose b needed in before (choose a later.needed) later
choose (Run.Choice k test chosen other inner) needed =
    if matters test chosen other needed then choose inner needed
    else record { needed = needed; kept = replicate (count inner) false; marks = no_mark }
choose (Run.Mark mark inner) needed =
    let inside = choose inner needed in
    record { needed = inside.needed; kept = inside.kept; marks = λ m. inside.marks m || (nat_eq mark m && list_any (λ b. b) inside.kept) }

-- behind a run nothing is needed
abbrev pub nothing : ℕ → Bool
nothing v = false

-- the numbers from k on, n of them
abbrev pub numbers_from : ℕ → ℕ → List ℕ
numbers_from k zero = []
numbers_from k (suc n) = k ∷ numbers_from (suc k) n

-- the marks of a set below a number, in rising order
unfoldable pub rising_below : (ℕ → Bool) → ℕ → List ℕ
rising_below marks n = filter marks (numbers_from 0 n)

-- the marks of a set in rising order; a mark is a number of one byte
abbrev pub rising : (ℕ → Bool) → List ℕ
rising marks = rising_below marks 256
