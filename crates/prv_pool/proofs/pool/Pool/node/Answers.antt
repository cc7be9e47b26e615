use Rattle.std.proofs.Common.{arith}
use Rattle.prv_pool.proofs.NodeLemmas.{length-terms_of, term-of-node_at, node-below}
use Rattle.prv_pool.proofs.PoolLemmas.{pool-table}
use Rattle.prv_pool.proofs.pool.Pool.node.Goals as goal

pub node-requires : goal.node-requires
node-requires c = let h = rw (← c.self.view_is) at c.requires in omega (arith, length-terms_of c.self.inside.nodes)

pub returns-clause-value : goal.returns-clause-value
returns-clause-value c = rw (← c.self.view_is) (term-of-node_at c.self.invariant c.args.n c.node.result c.node.ensures)

pub returns-clause-before : goal.returns-clause-before
returns-clause-before c = node-below c.self.invariant c.args.n c.node.result c.node.ensures

pub returns-clause-table : goal.returns-clause-table
returns-clause-table c = rw (← c.self.view_is) (pool-table c.self.invariant)
