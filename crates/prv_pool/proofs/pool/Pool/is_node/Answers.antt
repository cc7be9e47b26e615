use Rattle.std.proofs.Common.{arith, ◌∙◌}
use Rattle.prv_pool.proofs.NodeLemmas.{length-terms_of}
use Rattle.prv_pool.proofs.PoolLemmas.{same-at}
use Rattle.prv_pool.proofs.pool.Pool.is_node.Goals as goal

pub node-requires : goal.node-requires
node-requires c = let h = rw (← c.self.view_is) at c.requires.at in omega (arith, length-terms_of c.self.inside.nodes)

pub returns : goal.returns
returns c =
    let h = rw (← c.self.view_is) at c.requires.below in
    rw (← c.self.view_is) (c.eq.ensures ∙ same-at c.self.invariant c.args.n c.node.result c.args.node c.node.ensures h)
