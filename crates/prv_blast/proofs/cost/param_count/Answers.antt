use Rattle.std.proofs.Common.{◌∙◌, arith}
use Rattle.prv_blast.proofs.Costs.{few-params-node, params-more-node}
use Rattle.prv_blast.proofs.cost.param_count.Goals as goal

pub params_of-requires : goal.params_of-requires
params_of-requires c = few-params-node c.args.pool.now.terms c.args.order.now c.loop-place.place c.node-number.result c.node-node.result c.node-number.ensures c.node-node.ensures.value c.requires.few

pub loop-place-preserved : goal.loop-place-preserved
loop-place-preserved c =
    let few = few-params-node c.args.pool.now.terms c.args.order.now c.loop-place.place c.node-number.result c.node-node.result c.node-number.ensures c.node-node.ensures.value c.requires.few in
    record {
      most =
          c.larger-count.ensures
          ∙ params-more-node c.args.pool.now.terms c.args.order.now c.loop-place.place c.node-number.result c.node-node.result c.node-number.ensures c.node-node.ensures.value c.loop-place.count c.params_of.result c.loop-place.invariant.most c.params_of.ensures;
      bound = omega (arith, c.loop-place.invariant.bound, c.params_of.ensures, c.larger-count.ensures);
    }
