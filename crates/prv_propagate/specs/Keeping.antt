-- What the tables beside a trail keep.
use Rattle.std.specs.Prelude.{◌≡◌, ℕ, ◌+◌, ◌*◌, ◌<◌, ◌≤◌, Bool, true, false, not, ◌&&◌, List, length, count_by, slice_index_or}
use Rattle.std.specs.List.{list_all}
use Rattle.prv_cnf.specs.declared.literal.Lit.{Lit}
use Rattle.prv_cnf.specs.declared.formula.TheConstants.{MAX_VARS}
use Rattle.prv_cnf.specs.Literals.{variable, has_literal}
use Rattle.prv_check.specs.Lines.{is_within}
use Rattle.prv_propagate.specs.declared.trail.Step.{Step}
use Rattle.prv_cnf.specs.Places.{place_of}
use Rattle.prv_propagate.specs.Trails.{trues, step_at, IsDecision}

-- each number is less than the next
abbrev pub IsRising : List ℕ → Type 0
IsRising limits = (i j : ℕ) → i < j → j < length limits → slice_index_or limits i 0 < slice_index_or limits j 0

-- so many of the rising numbers are below this one
pub record IsLevel (limits : List ℕ) (place level : ℕ) : Type 0 where
  pub inside : level ≤ length limits
  pub below : (j : ℕ) → j < level → slice_index_or limits j 0 < place
  pub next : level < length limits → place ≤ slice_index_or limits level 0

-- the limits are the places of the decisions
pub record IsLeveled (steps : List Step) (limits : List ℕ) : Type 0 where
  pub rising : IsRising limits
  pub decisions : (j : ℕ) → j < length limits → (slice_index_or limits j 0 < length steps) × IsDecision (step_at steps (slice_index_or limits j 0))
  pub found : (p : ℕ) → p < length steps → IsDecision (step_at steps p) → (j : ℕ) × (j < length limits) × (slice_index_or limits j 0 ≡ p)

-- the table has true exactly at the places of the literals of the steps, and the place of each step
-- stands under its variable
pub record IsTrail (n : ℕ) (table : List Bool) (steps : List Step) (limits positions : List ℕ) : Type 0 where
  pub small : n ≤ MAX_VARS
  pub places : length table ≡ 2 * n + 1
  pub marks : (l : Lit) → slice_index_or table (place_of l) false ≡ has_literal (trues steps) l
  pub counted : length steps ≤ count_by (λ b. b) table
  pub room : length positions ≡ n + 1
  pub positioned : (k : ℕ) → k < length steps → slice_index_or positions (variable (step_at steps k).lit) 0 ≡ k
  pub within : list_all (is_within n) (trues steps) ≡ true
  pub leveled : IsLeveled steps limits

-- the table without the marks of these steps
abbrev pub AreUnmarked : List Bool → List Step → List Bool → Type 0
AreUnmarked old steps new =
    (l : Lit) → slice_index_or new (place_of l) false ≡ (slice_index_or old (place_of l) false && not (has_literal (trues steps) l))
