use Rattle.std.proofs.Common.{◌*◌, ◌<◌, ◌≤◌, length, arith, get_or, ◌-◌}
use Rattle.prv_gate.specs.Bits.{IsBit, bit_value}
use Rattle.prv_gate.specs.declared.bit.Bit.TheVariants.{False}
use Rattle.prv_gate.proofs.Composing.{bit-more}
use Rattle.prv_arith.specs.Orders.{less}
use Rattle.prv_arith.proofs.OrderLaws.{less-gives}
use Rattle.prv_arith.proofs.LoopLaws.{place, less-now, less-end, gives-along}
use Rattle.prv_arith.proofs.orders.less.Goals as goal

pub xor-requires : goal.xor-requires
xor-requires c =
    let s = c.args.builder.now in
    let b = c.loop-i.builder in
    let i = c.loop-i.i in
    let low : 0 < i = omega arith in
    let high : i ≤ length c.args.xs.now = omega arith in
    let now = less-now c.args.xs.now c.args.ys.now i s b c.loop-i.is_less c.requires.ready c.loop-i.invariant in
    let here = place 8 c.args.xs.now c.args.ys.now i s c.requires.ready b low high now.0 in
    record { first = here.first; second = here.second; room = omega (arith, here.room) }

pub mux-requires : goal.mux-requires
mux-requires c =
    let s = c.args.builder.now in
    let b = c.loop-i.builder in
    let i = c.loop-i.i in
    let low : 0 < i = omega arith in
    let high : i ≤ length c.args.xs.now = omega arith in
    let now = less-now c.args.xs.now c.args.ys.now i s b c.loop-i.is_less c.requires.ready c.loop-i.invariant in
    let here = place 8 c.args.xs.now c.args.ys.now i s c.requires.ready b low high now.0 in
    let grows = c.in_ok-differ.ensures.gives.grows in
    let t = c.xor.new.self in
    record {
      selector = c.in_ok-differ.ensures.gives.inside;
      first = bit-more b.formula.vars t.formula.vars (get_or c.args.ys.now (i - 1) False) grows.vars_kept here.second;
      second = bit-more b.formula.vars t.formula.vars c.loop-i.is_less grows.vars_kept now.1;
      room = omega (arith, here.room, grows.vars_cost);
    }

pub returns-clause-gives : goal.returns-clause-gives
returns-clause-gives c =
    let s = c.args.builder.now in
    let b = c.loop-i.builder in
    let i = c.loop-i.i in
    let end : i ≤ 0 = omega arith in
    gives-along IsBit bit_value (8 * length c.args.xs.now) s (record { out = c.loop-i.is_less; circuit = b }) (less c.args.xs.now c.args.ys.now s) _
    (less-end c.args.xs.now c.args.ys.now s b c.loop-i.is_less i end c.loop-i.invariant)
    (less-gives c.args.xs.now c.args.ys.now s c.requires.ready)
