use Rattle.std.proofs.Common.{◌∙◌, sym, subst, ap, List, Bool}
use Rattle.prv_pool.specs.Nodes.{IsPool, terms_of}
use Rattle.prv_pool.specs.declared.node.Node.{Node}
use Rattle.prv_pool.proofs.PoolLemmas.{pool-cut, terms_of-take}
use Rattle.prv_pool.proofs.pool.Pool.truncate.Goals as goal

pub invariant_of-self : goal.invariant_of-self
invariant_of-self c = subst (λ (ns : List (Node × Bool)). IsPool ns c.self.inside.max_nodes) (sym c.truncate.ensures) (pool-cut c.self.invariant c.args.count)

pub returns : goal.returns
returns c =
    let terms = ap terms_of c.truncate.ensures ∙ terms_of-take c.self.inside.nodes c.args.count in
    rw (← c.self.view_is) (λ i. record { terms = terms i; max_nodes = c.self.inside.max_nodes })
