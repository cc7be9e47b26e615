use Rattle.prv_pool.proofs.PoolLemmas.{pool-table}
use Rattle.prv_pool.proofs.pool.Pool.keeps_a_table.Goals as goal

pub returns : goal.returns
returns c = rw (← c.self.view_is) (pool-table c.self.invariant)
