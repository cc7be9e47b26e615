-- Which part of a settlement holds an input.
use Rattle.std.specs.Prelude.{◌≡◌, ℕ, ◌+◌, ◌-◌, ◌==◌, true, List, ℤ, Some, slice_get, if◌then◌else◌}
use Rattle.prv_model.specs.Terms.{holds}
use Rattle.prv_part.specs.declared.shape.Shape.{Shape}
use Rattle.prv_part.specs.declared.shape.Shape.TheVariants.{Empty, Stuck, Whole, Split, Beyond}
use Rattle.prv_part.specs.declared.part.Part.{Part}

-- the part at a place holds an input
pub record HoldsPart (parts : List Part) (x : List ℤ) (place : ℕ) : Type 0 where
  pub part : Part
  pub at : slice_get parts place ≡ Some part
  pub inside : holds part.region x ≡ true

-- which part has the inputs on which the literal at this place of the first part is the first that is 0: the first part has `all` literals, of which `known` are those of the region
abbrev pub part_without : Shape → ℕ → ℕ → ℕ → ℕ
part_without Split known all place = if place + 1 == all then 1 else 2 + (place - known)
part_without _ known all place = 1 + (place - known)
