use Rattle.std.proofs.Common.{◌≤◌, length, arith}
use Rattle.prv_blast.proofs.Costs.{cost-more-node}
use Rattle.prv_blast.proofs.Orders.{order-length}
use Rattle.prv_blast.proofs.cost.cost.Goals as goal

pub overflow_add-sum : goal.overflow_add-sum
overflow_add-sum c =
    let short : length c.args.order.now ≤ length c.args.pool.now.terms = order-length (length c.args.pool.now.terms) c.args.order.now c.len-place-end.ensures.distinct c.requires.within in
    omega arith

pub overflow_add-result : goal.overflow_add-result
overflow_add-result c =
    let short : length c.args.order.now ≤ length c.args.pool.now.terms = order-length (length c.args.pool.now.terms) c.args.order.now c.len-place-end.ensures.distinct c.requires.within in
    omega arith

pub loop-place-preserved : goal.loop-place-preserved
loop-place-preserved c = record {
  sum = cost-more-node c.args.pool.now.terms c.args.order.now c.loop-place.place c.node-number.result c.node-node.result c.node-number.ensures c.node-node.ensures.value c.loop-place.sum c.node_cost-sum.result c.loop-place.invariant.sum c.node_cost-sum.ensures.value;
  bound = omega arith;
}
