use Rattle.std.proofs.Common.{refl, sym, ◌∙◌, append-nil, arith}
use Rattle.std.proofs.lemmas.List.{take_all}
use Rattle.prv_pool.proofs.AddLemmas.{grown-not, grown-twice}
use Rattle.prv_settle.proofs.NodeLists.{tail-is, tail-long, dropped-nodes, joined-nodes, joined-terms, negations-more, negations-all, still-nodes}
use Rattle.prv_settle.proofs.cut.all_nodes.Goals as goal

pub loop-node-init : goal.loop-node-init
loop-node-init c = record {
  grows = grown-not _;
  nodes = joined-nodes _ _ _ _ c.in_ok-nodes.ensures c.requires.partition c.requires.more;
  terms = joined-terms _ _ _ _ c.in_ok-nodes.ensures ∙ sym (append-nil _);
  room = omega (arith, c.requires.room, tail-long c.args.region c.args.partition.now);
  limit = refl;
}

pub add_negation-requires-clause-node : goal.add_negation-requires-clause-node
add_negation-requires-clause-node c =
    let inside = dropped-nodes c.args.pool.now.terms c.args.partition.now _ c.args.region (tail-is c.args.region c.args.partition.now) c.requires.partition in
    still-nodes _ _ _ c.loop-node.invariant.grows inside c.loop-node.node-index 0 c.loop-node-test.true

pub add_negation-requires-clause-room : goal.add_negation-requires-clause-room
add_negation-requires-clause-room c = omega (arith, c.loop-node.invariant.room, c.loop-node-test.true)

pub loop-node-preserved : goal.loop-node-preserved
loop-node-preserved c =
    let inside = dropped-nodes c.args.pool.now.terms c.args.partition.now _ c.args.region (tail-is c.args.region c.args.partition.now) c.requires.partition in
    record {
      grows = grown-twice _ _ _ c.loop-node.invariant.grows c.in_ok-add_negation.ensures.grows;
      nodes = c.in_ok-add_negation.ensures.nodes;
      terms = negations-more _ _ _ c.loop-node.node-index _ _ _ _ c.loop-node.invariant.grows inside c.loop-node-test.true refl c.loop-node.invariant.terms c.in_ok-add_negation.ensures.terms;
      room = omega (arith, c.loop-node.invariant.room, c.loop-node-test.true, c.in_ok-add_negation.ensures.few, c.in_ok-add_negation.ensures.limit);
      limit = c.in_ok-add_negation.ensures.limit ∙ c.loop-node.invariant.limit;
    }

pub returns : goal.returns
returns c = record {
  nodes = c.loop-node.invariant.nodes;
  terms =
      negations-all c.args.pool.now.terms c.args.partition.now c.args.more.now _ c.args.region c.loop-node.node-index _ (tail-is c.args.region c.args.partition.now)
      (take_all c.loop-node.node-index _ c.loop-node-test.false) c.loop-node.invariant.terms;
  limit = c.loop-node.invariant.limit;
}
