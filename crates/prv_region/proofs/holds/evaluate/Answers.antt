use Rattle.std.proofs.Common.{arith, ap, ◌∙◌, List, ℤ}
use Rattle.std.specs.Int.{w32}
use Rattle.std.proofs.lemmas.Int.{to_z-of_z}
use Rattle.std.proofs.lemmas.List.{length-set}
use Rattle.prv_region.specs.Values.{node_value}
use Rattle.prv_region.proofs.ValueLemmas.{values-more}
use Rattle.prv_region.proofs.holds.evaluate.Goals as goal

pub loop-n-preserved : goal.loop-n-preserved
loop-n-preserved c =
    let vs = c.loop-n.values.items in
    let back = to_z-of_z w32 c.node_value-value.result (record { sfits = omega (arith, c.node_value-value.type_inv) }) in
    let is = back ∙ c.node_value-value.ensures ∙ ap (λ (us : List ℤ). node_value us c.args.words.now c.node.result) c.as_slice.ensures.value in
    record {
      room = length-set vs c.loop-n.n _ ∙ c.loop-n.invariant.room;
      values = values-more c.args.pool.now.terms vs c.args.words.now c.loop-n.n c.node.result _ (omega arith) c.node.ensures.value c.node.ensures.before is c.loop-n.invariant.values;
    }
