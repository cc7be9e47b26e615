-- A board kept as a tree: for each entry where it comes from, and which settlement retired it.
use Rattle.std.specs.Prelude.{◌≡◌, ℕ, zero, suc, ◌+◌, ◌<◌, List, [], ◌∷◌, ◌++◌, length, Option, Some, None, is_none, option_map, option_and_then, slice_get}
use Rattle.prv_part.specs.declared.part.Part.{Part}
use Rattle.prv_part.specs.Settlements.{Finding}
use Rattle.prv_board.specs.Slots.{Slot}
use Rattle.prv_board.specs.declared.tree.Origin.{Origin}
use Rattle.prv_board.specs.declared.tree.Origin.TheVariants.{Space, Made}
use Rattle.prv_board.specs.declared.tree.Retired.{Retired}
use Rattle.prv_board.specs.declared.parent.Parent.{Parent}

-- what stands at an origin
abbrev pub part_from : Part → List Finding → Origin → Option Part
part_from whole history Space = Some whole
part_from whole history (Made k i) = option_and_then (λ s. slice_get s.parts i) (slice_get history k)

-- what an entry of this origin says, if it isn't retired
abbrev pub unless_retired : Part → List Finding → Option Origin → Option (Option Retired) → Option Part
unless_retired whole history (Some origin) (Some None) = part_from whole history origin
unless_retired whole history _ _ = None

-- origins and retirements stand for entries, one for one
abbrev pub Stand : Part → List Finding → List Origin → List (Option Retired) → List Slot → Type 0
Stand whole history [] [] [] = Unit {0}
Stand whole history (o ∷ os) (r ∷ rs) (slot ∷ slots) = (part_from whole history o ≡ Some slot.part) × (slot.live ≡ is_none r) × Stand whole history os rs slots
Stand whole history _ _ _ = ⊥

-- the origins of the parts of a settlement, from one part on
abbrev pub origins_from : ℕ → ℕ → ℕ → List Origin
origins_from k i zero = []
origins_from k i (suc count) = Made k i ∷ origins_from k (suc i) count

-- the origins of the parts of some settlements, from the k-th settlement on
abbrev pub origins_all : ℕ → List Finding → List Origin
origins_all k [] = []
origins_all k (s ∷ rest) = origins_from k 0 (length s.parts) ++ origins_all (suc k) rest

-- from which entry an entry of this origin comes
abbrev pub parent_at : List Finding → Origin → Option Parent
parent_at history Space = None
parent_at history (Made k i) = option_map (λ s. record { entry = s.entry; part = i }) (slice_get history k)

-- so many entries that aren't retired
abbrev pub not_retired : ℕ → List (Option Retired)
not_retired zero = []
not_retired (suc count) = None ∷ not_retired count

-- the settlement that retired an entry is of the entry's region, and its parts have the next numbers from its first on
pub record IsRetired (whole : Part) (history : List Finding) (origins : List Origin) (n : ℕ) (r : Retired) : Type 0 where
  pub settlement : Finding
  pub applied : slice_get history r.settlement ≡ Some settlement
  pub entry : settlement.entry ≡ n
  pub region : option_map (λ p. p.region) (option_and_then (part_from whole history) (slice_get origins n)) ≡ Some settlement.region
  pub later : n < r.first
  pub children : (i : ℕ) → i < length settlement.parts → slice_get origins (r.first + i) ≡ Some (Made r.settlement i)

abbrev pub AreRetired : Part → List Finding → List Origin → List (Option Retired) → Type 0
AreRetired whole history origins retired = (n : ℕ) (r : Retired) → slice_get retired n ≡ Some (Some r) → IsRetired whole history origins n r
