use Rattle.std.proofs.Common.{◌<◌, length, get_or, refl, arith}
use Rattle.std.proofs.lemmas.List.{take_all}
use Rattle.prv_settle.proofs.NodeLists.{marked-none, marked-next, marked-same}
use Rattle.prv_settle.proofs.partition.mark_all.Goals as goal

pub loop-node-init : goal.loop-node-init
loop-node-init c = marked-none _ c.requires.none

pub loop-node-preserved : goal.loop-node-preserved
loop-node-preserved c =
    let known = c.requires.within c.loop-node.node-index 0 c.loop-node-test.true in
    let long = c.loop-node.auto.has in
    let inside : get_or c.args.nodes.now c.loop-node.node-index 0 < length c.loop-node.has = omega (arith, known, long) in
    marked-next c.loop-node.has _ c.args.nodes.now c.loop-node.node-index _ c.loop-node.invariant c.loop-node-test.true refl inside refl

pub returns : goal.returns
returns c = marked-same _ _ _ (take_all c.loop-node.node-index c.args.nodes.now c.loop-node-test.false) c.loop-node.invariant
