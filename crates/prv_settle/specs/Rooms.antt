-- Room in a pool for the nodes that only the parts of a partition need.
use Rattle.std.specs.Prelude.{ℕ, ◌+◌, ◌-◌, ◌*◌, ◌≤◌, length}
use Rattle.prv_region.specs.declared.region.TheConstants.{MAX_REGION_NODES}
use Rattle.prv_settle.specs.declared.cut.Cut.{Cut}

-- the pool has room for the negation of each literal of a partition, each with 0 beside it, and for so many nodes more; and it is no larger than that of a region
pub record HasRoom (more : ℕ) (cut : Cut) : Type 0 where
  pub free : length cut.pool.terms + 2 * (length cut.partition.items - cut.region) + more ≤ cut.pool.max_nodes
  pub small : cut.pool.max_nodes ≤ MAX_REGION_NODES
