-- Nodes of a pool that a region may be made of.
use Rattle.std.specs.Prelude.{ℕ, ◌<◌, ◌≤◌, List, length, All}
use Rattle.prv_model.specs.declared.term.Term.{Term}
use Rattle.prv_region.specs.declared.region.TheConstants.{MAX_REGION_NODES}

-- some numbers are those of nodes of a pool that a region may have
pub record IsRegion (terms : List Term) (roots : List ℕ) : Type 0 where
  pub within : All (λ n. n < length terms) roots
  pub few : length terms ≤ MAX_REGION_NODES
