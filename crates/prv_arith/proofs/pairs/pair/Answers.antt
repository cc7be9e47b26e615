use Rattle.std.proofs.Common.{◌*◌, ◌<◌, ◌≤◌, length, drop, arith}
use Rattle.prv_arith.specs.Lists.{AllBits, values}
use Rattle.prv_arith.specs.Pairs.{paired}
use Rattle.prv_arith.proofs.GateLaws.{pair_gate-more}
use Rattle.prv_arith.proofs.PairLaws.{paired-gives}
use Rattle.prv_arith.proofs.LoopLaws.{place, pair-now, pair-end, gives-along}
use Rattle.prv_arith.proofs.pairs.pair.Goals as goal

pub pair_gate-requires : goal.pair_gate-requires
pair_gate-requires c =
    let s = c.args.builder.now in
    let b = c.loop-i.builder in
    let i = c.loop-i.i in
    let low : 0 < i = omega arith in
    let high : i ≤ length c.args.xs.now = omega arith in
    let grows = pair-now c.args.xs.now c.args.ys.now i s b c.args.gate (drop i c.loop-i.out) c.requires.inside c.requires.ready c.loop-i.invariant in
    let here = place 4 c.args.xs.now c.args.ys.now i s c.requires.ready b low high grows in
    record {
      inside = pair_gate-more s.formula.vars b.formula.vars c.args.gate grows.vars_kept c.requires.inside;
      first = here.first;
      second = here.second;
      room = here.room;
    }

pub returns-clause-gives : goal.returns-clause-gives
returns-clause-gives c =
    let s = c.args.builder.now in
    let b = c.loop-i.builder in
    let i = c.loop-i.i in
    let end : i ≤ 0 = omega arith in
    gives-along AllBits values (4 * length c.args.xs.now) s (record { out = c.loop-i.out; circuit = b }) (paired c.args.gate c.args.xs.now c.args.ys.now s) _
    (pair-end c.args.xs.now c.args.ys.now s b c.args.gate c.loop-i.out i end c.loop-i.invariant)
    (paired-gives c.args.gate c.args.xs.now c.args.ys.now s c.requires.inside c.requires.ready)
