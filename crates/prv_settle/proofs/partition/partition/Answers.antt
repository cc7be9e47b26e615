use Rattle.prv_settle.proofs.NodeLists.{partitioned}
use Rattle.prv_settle.proofs.partition.partition.Goals as goal

pub returns : goal.returns
returns c = record {
  nodes = c.in_ok-add_new-2.ensures.nodes;
  terms = partitioned c.args.pool.now.terms _ c.args.region.now _ _ _ _ c.in_ok-nodes.ensures.items c.in_ok-add_new.ensures.terms c.in_ok-add_new-2.ensures.terms;
}
