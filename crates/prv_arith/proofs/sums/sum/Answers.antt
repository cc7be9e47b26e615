use Rattle.std.proofs.Common.{◌*◌, ◌<◌, ◌≤◌, length, drop, arith}
use Rattle.prv_arith.specs.Lists.{AreCarried, carried_values}
use Rattle.prv_arith.specs.Sums.{summed}
use Rattle.prv_arith.proofs.SumLaws.{summed-gives}
use Rattle.prv_arith.proofs.LoopLaws.{place, sum-now, sum-end, gives-along}
use Rattle.prv_arith.proofs.sums.sum.Goals as goal

pub full_adder-requires : goal.full_adder-requires
full_adder-requires c =
    let s = c.args.builder.now in
    let b = c.loop-i.builder in
    let i = c.loop-i.i in
    let low : 0 < i = omega arith in
    let high : i ≤ length c.args.xs.now = omega arith in
    let now = sum-now c.args.xs.now c.args.ys.now i s b c.args.carry c.loop-i.carried (drop i c.loop-i.out) c.requires.inside c.requires.ready c.loop-i.invariant in
    let here = place 14 c.args.xs.now c.args.ys.now i s c.requires.ready b low high now.0 in
    record { first = here.first; second = here.second; third = now.1; room = omega (arith, here.room) }

pub returns-clause-gives : goal.returns-clause-gives
returns-clause-gives c =
    let s = c.args.builder.now in
    let b = c.loop-i.builder in
    let i = c.loop-i.i in
    let end : i ≤ 0 = omega arith in
    gives-along AreCarried carried_values (14 * length c.args.xs.now) s (record { out = (c.loop-i.carried, c.loop-i.out); circuit = b }) (summed c.args.carry c.args.xs.now c.args.ys.now s) _
    (sum-end c.args.xs.now c.args.ys.now s b c.args.carry c.loop-i.carried c.loop-i.out i end c.loop-i.invariant)
    (summed-gives c.args.carry c.args.xs.now c.args.ys.now s c.requires.inside c.requires.ready)
