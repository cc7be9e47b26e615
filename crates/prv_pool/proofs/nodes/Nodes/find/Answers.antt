use Rattle.prv_pool.proofs.KeyLemmas.{find-found, find-absent}
use Rattle.prv_pool.proofs.nodes.Nodes.find.Goals as goal

pub returns-clause-found : goal.returns-clause-found
returns-clause-found c = rw (← c.self.view_is) (find-found c.self.inside.map.entries c.args.node.now c.get_index_of.result c.get_index_of.ensures.index)

pub returns-clause-absent : goal.returns-clause-absent
returns-clause-absent c = rw (← c.self.view_is) (find-absent c.self.inside.map.entries c.args.node.now c.get_index_of.result c.get_index_of.ensures.index)
