use Rattle.prv_pool.proofs.KeyLemmas.{are-distinct}
use Rattle.prv_pool.proofs.nodes.Nodes.len.Goals as goal

pub returns-clause-distinct : goal.returns-clause-distinct
returns-clause-distinct c = rw (← c.self.view_is) (are-distinct c.self.inside.map.entries c.len.ensures.unique)
