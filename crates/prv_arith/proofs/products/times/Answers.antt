use Rattle.std.proofs.Common.{◌≡◌, ◌+◌, ◌-◌, ◌<◌, ◌≤◌, length, arith}
use Rattle.prv_arith.proofs.RunLaws.{times-none, ready-part}
use Rattle.prv_arith.proofs.StageLaws.{row-place}
use Rattle.prv_arith.proofs.products.times.Goals as goal

pub loop-i-init : goal.loop-i-init
loop-i-init c =
    let wx : 32 ≡ length c.args.xs.now = omega arith in
    let wy : length c.args.ys.now ≤ 32 = omega arith in
    times-none 32 c.args.xs.now c.args.ys.now c.args.builder.now wx wy

pub add_step-requires-clause-inside : goal.add_step-requires-clause-inside
add_step-requires-clause-inside c =
    let wx : length c.args.xs.now ≡ 32 = omega arith in
    let wy : length c.args.ys.now ≡ 32 = omega arith in
    let low : 0 < c.loop-i.i = omega arith in
    let high : (31 - (c.loop-i.i - 1)) + c.loop-i.i ≡ 32 = omega arith in
    (row-place c.args.xs.now c.args.ys.now c.loop-i.product c.loop-i.i (31 - (c.loop-i.i - 1)) c.args.builder.now c.loop-i.builder wx wy c.requires low high c.loop-i.invariant).0

pub add_step-requires-clause-ready : goal.add_step-requires-clause-ready
add_step-requires-clause-ready c =
    let wx : length c.args.xs.now ≡ 32 = omega arith in
    let wy : length c.args.ys.now ≡ 32 = omega arith in
    let low : 0 < c.loop-i.i = omega arith in
    let high : (31 - (c.loop-i.i - 1)) + c.loop-i.i ≡ 32 = omega arith in
    let here = row-place c.args.xs.now c.args.ys.now c.loop-i.product c.loop-i.i (31 - (c.loop-i.i - 1)) c.args.builder.now c.loop-i.builder wx wy c.requires low high c.loop-i.invariant in
    ready-part 18 (31 - (c.loop-i.i - 1)) _ c.args.xs.now c.loop-i.product c.loop-i.builder (omega arith) here.1
