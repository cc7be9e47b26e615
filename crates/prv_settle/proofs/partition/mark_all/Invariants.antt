use Rattle.std.proofs.Common.{take}
use Rattle.prv_settle.specs.Making.{AreMarked}
use Rattle.prv_settle.proofs.partition.mark_all.Given as goal

abbrev pub invariant-loop-node : goal.invariant-loop-node
invariant-loop-node l = AreMarked l.has (take l.node-index l.nodes)
