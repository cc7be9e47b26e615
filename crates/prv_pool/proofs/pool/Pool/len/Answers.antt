use Rattle.std.proofs.Common.{arith, sym, ◌∙◌}
use Rattle.prv_pool.proofs.NodeLemmas.{length-terms_of}
use Rattle.prv_pool.proofs.PoolLemmas.{pool-table}
use Rattle.prv_pool.proofs.pool.Pool.len.Goals as goal

pub overflow_cast-result : goal.overflow_cast-result
overflow_cast-result c = omega (arith, c.self.invariant.within, c.self.invariant.small, c.len.ensures.len)

pub returns-clause-value : goal.returns-clause-value
returns-clause-value c = rw (← c.self.view_is) (c.len.ensures.len ∙ sym (length-terms_of c.self.inside.nodes))

pub returns-clause-table : goal.returns-clause-table
returns-clause-table c = rw (← c.self.view_is) (pool-table c.self.invariant)
