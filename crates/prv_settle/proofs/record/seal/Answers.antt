use Rattle.std.proofs.Common.{◌+◌, ◌<◌, ◌^◌, arith}
use Rattle.std.specs.Arc.{arc_value}
use Rattle.prv_model.specs.Terms.{IsTerm}
use Rattle.prv_blast.proofs.Growing.{all-recursive}
use Rattle.prv_settle.proofs.Recording.{few-numbers, made-true, made-kept}
use Rattle.prv_settle.proofs.record.seal.Goals as goal

pub proof_numbers-numbers-requires : goal.proof_numbers-numbers-requires
proof_numbers-numbers-requires c =
    let task = c.args.task.now in
    let pair = arc_value task.pair.now in
    few-numbers pair task.region.now c.args.raw (all-recursive (IsTerm pair.before.params) task.region.now task.kept.known) c.requires.grounds

pub settlement_of-requires : goal.settlement_of-requires
settlement_of-requires c =
    let task = c.args.task.now in
    let pair = arc_value task.pair.now in
    let known = all-recursive (IsTerm pair.before.params) task.region.now task.kept.known in
    let few = few-numbers pair task.region.now c.args.raw known c.requires.grounds in
    let small : c.from.result + c.proof_numbers-numbers.result < 2 ^ 62 = omega (arith, few, c.proof_numbers-numbers.ensures.value) in
    made-true pair task.region.now c.args.raw c.args.parts.list.items c.from.result c.proof_numbers-numbers.result c.requires.parts (omega (arith, c.requires.terms)) c.proof_numbers-numbers.ensures.value known task.kept.few small c.requires.grounds

pub new-requires : goal.new-requires
new-requires c =
    let task = c.args.task.now in
    let pair = arc_value task.pair.now in
    made-kept pair task.region.now c.args.raw c.args.parts.list.items c.from.result c.proof_numbers-numbers.result c.requires.parts (omega (arith, c.requires.terms)) c.proof_numbers-numbers.ensures.value
    (all-recursive (IsTerm pair.before.params) task.region.now task.kept.known) c.requires.grounds c.in_ok-settlement.settlement c.in_ok-settlement.ensures
