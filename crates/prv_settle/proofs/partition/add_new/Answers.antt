use Rattle.std.proofs.Common.{refl}
use Rattle.prv_settle.proofs.NodeLists.{new-node}
use Rattle.prv_settle.proofs.partition.add_new.Goals as goal

pub loop-node-preserved : goal.loop-node-preserved
loop-node-preserved c =
    let now =
    new-node c.args.pool.now c.args.nodes.now.items c.loop-node.nodes.items c.add_one.new.nodes.items c.args.more.now c.loop-node.node-index _ c.len.ensures.table c.loop-node.invariant.nodes c.requires.more c.loop-node-test.true refl
    c.loop-node.invariant.terms c.in_ok-add_one.ensures.nodes in
    record { marked = c.in_ok-add_one.ensures.marked; nodes = now.0; terms = now.1 }
