use Rattle.std.proofs.Common.{◌≡◌, ◌*◌, length, arith}
use Rattle.prv_gate.specs.Bits.{IsBit, bit_value}
use Rattle.prv_arith.specs.Orders.{unlike}
use Rattle.prv_arith.proofs.OrderLaws.{unlike-gives}
use Rattle.prv_arith.proofs.RunLaws.{unlike-run}
use Rattle.prv_arith.proofs.LoopLaws.{gives-along}
use Rattle.prv_arith.proofs.orders.unlike.Goals as goal

pub returns-clause-run : goal.returns-clause-run
returns-clause-run c =
    unlike-run c.args.xs.now c.args.ys.now c.pair.new.out c.args.builder.now c.pair.new.builder c.some.new.builder c.in_ok-differ.differ c.in_ok-pair.ensures.run c.in_ok-differ.ensures.run

pub returns-clause-gives : goal.returns-clause-gives
returns-clause-gives c =
    let same : length c.args.xs.now ≡ length c.args.ys.now = omega arith in
    gives-along IsBit bit_value (7 * length c.args.xs.now) c.args.builder.now (record { out = c.in_ok-differ.differ; circuit = c.some.new.builder }) (unlike c.args.xs.now c.args.ys.now c.args.builder.now) _
    (unlike-run c.args.xs.now c.args.ys.now c.pair.new.out c.args.builder.now c.pair.new.builder c.some.new.builder c.in_ok-differ.differ c.in_ok-pair.ensures.run c.in_ok-differ.ensures.run)
    (unlike-gives c.args.xs.now c.args.ys.now c.args.builder.now same c.requires.ready)
