use Rattle.std.proofs.Common.{arith, ◌∙◌}
use Rattle.prv_pool.proofs.NodeLemmas.{length-terms_of}
use Rattle.prv_pool.proofs.PoolLemmas.{truth_at-is, pool-table}
use Rattle.prv_pool.proofs.pool.Pool.is_truth.Goals as goal

pub is_truth-requires : goal.is_truth-requires
is_truth-requires c = let h = rw (← c.self.view_is) at c.requires in omega (arith, length-terms_of c.self.inside.nodes)

pub returns-clause-value : goal.returns-clause-value
returns-clause-value c =
    let h = rw (← c.self.view_is) at c.requires in
    rw (← c.self.view_is) (c.is_truth.ensures ∙ truth_at-is c.self.invariant c.args.n (omega (arith, length-terms_of c.self.inside.nodes)))

pub returns-clause-table : goal.returns-clause-table
returns-clause-table c = rw (← c.self.view_is) (pool-table c.self.invariant)
