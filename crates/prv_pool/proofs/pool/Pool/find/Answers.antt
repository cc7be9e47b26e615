use Rattle.std.proofs.Common.{arith}
use Rattle.prv_pool.proofs.NodeLemmas.{node_at-within, term-of-node_at}
use Rattle.prv_pool.proofs.PoolLemmas.{node-lacks, below-terms, pool-table}
use Rattle.prv_pool.proofs.pool.Pool.find.Goals as goal

pub overflow_cast-result : goal.overflow_cast-result
overflow_cast-result c =
    let within = node_at-within c.self.inside.nodes c.in-Some.n c.args.node c.in-Some.ensures.found in
    omega (arith, c.self.invariant.within, c.self.invariant.small)

pub returns-in-Some-clause-found : goal.returns-in-Some-clause-found
returns-in-Some-clause-found c = rw (← c.self.view_is) (term-of-node_at c.self.invariant c.in-Some.n c.args.node c.in-Some.ensures.found)

pub returns-in-None-clause-absent : goal.returns-in-None-clause-absent
returns-in-None-clause-absent c =
    let low = below-terms c.self.inside.nodes c.args.node (rw (← c.self.view_is) at c.requires) in
    rw (← c.self.view_is) (node-lacks c.self.invariant c.args.node low c.in-None.ensures.absent)

pub returns-in-Some-clause-table : goal.returns-in-Some-clause-table
returns-in-Some-clause-table c = rw (← c.self.view_is) (pool-table c.self.invariant)

pub returns-in-None-clause-table : goal.returns-in-None-clause-table
returns-in-None-clause-table c = rw (← c.self.view_is) (pool-table c.self.invariant)
