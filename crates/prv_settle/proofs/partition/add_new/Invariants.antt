use Rattle.std.proofs.Common.{◌≡◌, ◌++◌, take}
use Rattle.prv_general.specs.Answers.{terms_at}
use Rattle.prv_part.specs.Literals.{without_repeats}
use Rattle.prv_settle.specs.Making.{AreNodes, AreMarked}
use Rattle.prv_settle.proofs.partition.add_new.Given as goal

abbrev pub invariant-loop-node : goal.invariant-loop-node
invariant-loop-node l = record {
  marked : AreMarked l.has l.nodes.items;
  nodes : AreNodes l.pool.terms l.nodes.items;
  terms : terms_at l.pool.terms l.nodes.items ≡
      terms_at l.pool.terms l.fn.nodes.items ++ without_repeats (terms_at l.pool.terms l.fn.nodes.items) (terms_at l.pool.terms (take l.node-index l.more));
}
