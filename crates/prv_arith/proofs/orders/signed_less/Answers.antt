use Rattle.std.proofs.Common.{◌*◌, length, arith}
use Rattle.prv_gate.specs.Bits.{IsBit, bit_value}
use Rattle.prv_arith.specs.Orders.{signed_less}
use Rattle.prv_arith.proofs.OrderLaws.{signed_less-gives}
use Rattle.prv_arith.proofs.RunLaws.{signed_less-run, ready-parts, less-parts}
use Rattle.prv_arith.proofs.LoopLaws.{gives-along, ready-drop}
use Rattle.prv_arith.proofs.orders.signed_less.Goals as goal

pub less-requires-clause-ready : goal.less-requires-clause-ready
less-requires-clause-ready c =
    ready-parts 8 1 _ _ c.args.xs.now c.args.ys.now c.args.builder.now (omega arith) (omega arith) (ready-drop 8 c.args.xs.now c.args.ys.now 1 c.args.builder.now c.requires.ready)

pub returns-clause-run : goal.returns-clause-run
returns-clause-run c =
    signed_less-run c.args.xs.now c.args.ys.now c.args.builder.now c.less.new.builder c.xor.new.self c.mux.new.self c.in_ok-lower.lower c.in_ok-differ.differ c.in_ok-is_less.is_less
    c.requires.some c.requires.width
    (less-parts _ _ c.args.xs.now c.args.ys.now c.args.builder.now c.less.new.builder c.in_ok-lower.lower (omega arith) (omega arith) c.in_ok-lower.ensures.run)
    c.in_ok-differ.ensures.run c.in_ok-is_less.ensures.run

pub returns-clause-gives : goal.returns-clause-gives
returns-clause-gives c =
    gives-along IsBit bit_value (8 * length c.args.xs.now) c.args.builder.now (record { out = c.in_ok-is_less.is_less; circuit = c.mux.new.self }) (signed_less c.args.xs.now c.args.ys.now c.args.builder.now) _
    (signed_less-run c.args.xs.now c.args.ys.now c.args.builder.now c.less.new.builder c.xor.new.self c.mux.new.self c.in_ok-lower.lower c.in_ok-differ.differ c.in_ok-is_less.is_less
    c.requires.some c.requires.width
    (less-parts _ _ c.args.xs.now c.args.ys.now c.args.builder.now c.less.new.builder c.in_ok-lower.lower (omega arith) (omega arith) c.in_ok-lower.ensures.run)
    c.in_ok-differ.ensures.run c.in_ok-is_less.ensures.run)
    (signed_less-gives c.args.xs.now c.args.ys.now c.args.builder.now c.requires.ready)
