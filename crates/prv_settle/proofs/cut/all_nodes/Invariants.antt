use Rattle.std.proofs.Common.{◌≡◌, ◌+◌, ◌-◌, ◌*◌, ◌≤◌, ◌++◌, length, map, take}
use Rattle.prv_pool.specs.Folding.{negation}
use Rattle.prv_pool.specs.Tables.{Grown}
use Rattle.prv_general.specs.Answers.{terms_at}
use Rattle.prv_settle.specs.Making.{AreNodes}
use Rattle.prv_settle.proofs.cut.all_nodes.Given as goal

abbrev pub invariant-loop-node : goal.invariant-loop-node
invariant-loop-node l = record {
  grows : Grown l.fn.pool.terms l.pool.terms;
  nodes : AreNodes l.pool.terms l.nodes.items;
  terms : terms_at l.pool.terms l.nodes.items ≡
      (terms_at l.fn.pool.terms l.partition ++ terms_at l.fn.pool.terms l.more) ++ map negation (terms_at l.fn.pool.terms (take l.node-index l.node-items));
  room : length l.pool.terms + 2 * (length l.node-items - l.node-index) ≤ l.pool.max_nodes;
  limit : l.pool.max_nodes ≡ l.fn.pool.max_nodes;
}
