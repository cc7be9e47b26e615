-- Skeletons compared: items are, places aren't.
use Rattle.std.specs.Prelude.{◌≡◌, ◌≢◌, ℕ, ◌-◌, ◌<◌, min, List, length, map, Option, Some, None, slice_get}
use Rattle.std.specs.Option.{option_map}
use Rattle.prv_rule.specs.declared.skeleton.Skel.{Skel}
use Rattle.prv_rule.specs.declared.skeleton.SkelItem.{SkelItem}

-- what stands in a skeleton, without the places
abbrev pub items_of : List Skel → List SkelItem
items_of skeleton = map (λ s. s.item) skeleton

-- the item at i, counted from 0, or none where the skeleton has ended
abbrev pub item_at : List Skel → ℕ → Option SkelItem
item_at skeleton i = option_map (λ s. s.item) (slice_get skeleton i)

-- a place, or 0 where there is none
abbrev pub place_or_0 : Option Skel → ℕ
place_or_0 None = 0
place_or_0 (Some s) = s.place

-- the place of the item at i, or of the last where the skeleton has ended.
-- No skeleton of a file has ended at a difference, since each ends with the closing brace of `main`.
abbrev pub place_at : List Skel → ℕ → ℕ
place_at skeleton i = place_or_0 (slice_get skeleton (min i (length skeleton - 1)))

-- i is the first index at which the items differ, or at which one skeleton alone has ended
pub record DifferFirstAt (before after : List Skel) (i : ℕ) : Type 0 where
  pub differ : item_at before i ≢ item_at after i
  pub equal_before : (k : ℕ) → k < i → item_at before k ≡ item_at after k

-- two skeletons differ, first at these places
pub record DifferAt (before after : List Skel) (before_place after_place : ℕ) : Type 0 where
  pub index : ℕ
  pub first : DifferFirstAt before after index
  pub before_there : place_at before index ≡ before_place
  pub after_there : place_at after index ≡ after_place
