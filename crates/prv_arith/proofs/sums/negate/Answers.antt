use Rattle.std.proofs.Common.{◌*◌, length, arith}
use Rattle.prv_arith.specs.Lists.{AllBits, values}
use Rattle.prv_arith.specs.Sums.{negated}
use Rattle.prv_arith.proofs.SumLaws.{negated-gives}
use Rattle.prv_arith.proofs.RunLaws.{negated-run}
use Rattle.prv_arith.proofs.LoopLaws.{gives-along}
use Rattle.prv_arith.proofs.sums.negate.Goals as goal

pub returns-clause-run : goal.returns-clause-run
returns-clause-run c =
    negated-run 32 c.args.c c.args.bits.now c.pair.new.out c.add.new.out c.args.builder.now c.pair.new.builder c.add.new.builder (omega arith) c.in_ok-pair.ensures.run c.in_ok-add.ensures

pub returns-clause-gives : goal.returns-clause-gives
returns-clause-gives c =
    gives-along AllBits values (18 * length c.args.bits.now) c.args.builder.now (record { out = c.add.new.out; circuit = c.add.new.builder }) (negated c.args.c c.args.bits.now c.args.builder.now) _
    (negated-run 32 c.args.c c.args.bits.now c.pair.new.out c.add.new.out c.args.builder.now c.pair.new.builder c.add.new.builder (omega arith) c.in_ok-pair.ensures.run c.in_ok-add.ensures)
    (negated-gives c.args.c c.args.bits.now c.args.builder.now c.requires.ready.circuit c.requires.inside c.requires.ready.first c.requires.ready.room)
