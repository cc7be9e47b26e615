use Rattle.std.proofs.Common.{arith}
use Rattle.prv_pool.specs.Nodes.{table_of}
use Rattle.prv_pool.proofs.NodeLemmas.{length-terms_of}
use Rattle.prv_pool.proofs.MakeLemmas.{makes-known}
use Rattle.prv_pool.proofs.pool.Pool.known.Goals as goal

pub returns : goal.returns
returns c =
    let h = rw (← c.self.view_is) at c.requires in
    rw (← c.self.view_is)
    (makes-known (table_of c.self.inside.nodes c.self.inside.max_nodes) c.args.n (omega (arith, c.self.invariant.within, length-terms_of c.self.inside.nodes)) h)
