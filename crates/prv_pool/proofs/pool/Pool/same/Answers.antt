use Rattle.prv_pool.proofs.NodeLemmas.{terms-apart}
use Rattle.prv_pool.proofs.FoldLemmas.{same-numbers}
use Rattle.prv_pool.specs.Nodes.{terms_of}
use Rattle.prv_pool.proofs.pool.Pool.same.Goals as goal

pub returns : goal.returns
returns c =
    let h = rw (← c.self.view_is) at c.requires in
    rw (← c.self.view_is) (same-numbers (terms_of c.self.inside.nodes) c.args.a c.args.b (terms-apart c.self.invariant) h.first h.second)
