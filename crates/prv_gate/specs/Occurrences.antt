-- In which clauses each literal stands: a list of clause numbers for each literal, and what is kept of it.
-- No public contract names it.
use Rattle.std.specs.Prelude.{◌≡◌, ℕ, ◌+◌, ◌<◌, ◌≤◌, nat_eq, Bool, false, List, [], ◌∷◌, ◌++◌, length, slice_index_or, slice_set, Option, None}
use Rattle.std.specs.List.{list_any, AllByRecursion}
use Rattle.prv_cnf.specs.declared.literal.Lit.{Lit}
use Rattle.prv_cnf.specs.Literals.{has_literal}
use Rattle.prv_cnf.specs.Places.{place_of}
use Rattle.prv_gate.specs.Examining.{examined}
use Rattle.prv_gate.specs.declared.propagate.Examined.TheVariants.{Open}

-- the clauses that were entered under a literal
abbrev pub occurrences_of : List (List ℕ) → Lit → List ℕ
occurrences_of lists l = slice_index_or lists (place_of l) []

-- a clause more under a literal
abbrev pub with_occurrence : ℕ → Lit → List (List ℕ) → List (List ℕ)
with_occurrence clause l lists = slice_set lists (place_of l) (occurrences_of lists l ++ clause ∷ [])

-- a clause more under each of some literals
abbrev pub with_occurrences : ℕ → List Lit → List (List ℕ) → List (List ℕ)
with_occurrences clause [] lists = lists
with_occurrences clause (l ∷ ls) lists = with_occurrences clause ls (with_occurrence clause l lists)

-- a number is in a list
abbrev pub is_listed : ℕ → List ℕ → Bool
is_listed k numbers = list_any (nat_eq k) numbers

-- how many numbers the lists hold
abbrev pub total : List (List ℕ) → ℕ
total [] = 0
total (list ∷ lists) = length list + total lists

-- the first n clauses were entered, each under all its literals
pub record AreEntered (clauses : List (List Lit)) (n : ℕ) (lists : List (List ℕ)) : Type 0 where
  pub below : n ≤ length clauses
  pub numbers : (l : Lit) → AllByRecursion (λ k. k < n) (occurrences_of lists l)
  pub stand : (k : ℕ) (l : Lit) → k < n → is_listed k (occurrences_of lists l) ≡ false → has_literal (slice_index_or clauses k []) l ≡ false

-- a clause is open, where some variables are known
abbrev pub IsOpen : List (List Lit) → List (Option Bool) → ℕ → Type 0
IsOpen clauses known k = examined known None (slice_index_or clauses k []) ≡ Open

-- the first n clauses were entered and are open
pub record AreOpen (clauses : List (List Lit)) (known : List (Option Bool)) (n : ℕ) (lists : List (List ℕ)) : Type 0 where
  pub entered : AreEntered clauses n lists
  pub opened : (k : ℕ) → k < n → IsOpen clauses known k

-- all clauses are open but those of a list
pub record ArePending (clauses : List (List Lit)) (known : List (Option Bool)) (pending : List ℕ) : Type 0 where
  pub below : AllByRecursion (λ k. k < length clauses) pending
  pub opened : (k : ℕ) → k < length clauses → is_listed k pending ≡ false → IsOpen clauses known k
