use Rattle.std.proofs.Common.{◌≡◌, length, arith}
use Rattle.prv_arith.specs.Lists.{AllBits}
use Rattle.prv_arith.specs.Costs.{op_cost}
use Rattle.prv_arith.specs.Words.{word_value, op_bits}
use Rattle.prv_arith.proofs.LoopLaws.{gives-along}
use Rattle.prv_arith.proofs.OperatorLaws.{op_bits-gives}
use Rattle.prv_arith.proofs.words.word_op.Goals as goal

pub operate-requires : goal.operate-requires
operate-requires c = record { circuit = c.vars.ensures.circuit; first = c.requires.first; second = c.requires.second; room = c.requires.room }

pub returns-clause-gives : goal.returns-clause-gives
returns-clause-gives c =
    let wa : length c.args.a.now.bits ≡ 32 = omega arith in
    let wb : length c.args.b.now.bits ≡ 32 = omega arith in
    gives-along AllBits word_value (op_cost c.args.op) c.args.builder.now (record { out = c.in_ok-bits.bits; circuit = c.operate.new.builder }) (op_bits c.args.op c.args.a.now.bits c.args.b.now.bits c.args.builder.now) _
    c.in_ok-bits.ensures
    (op_bits-gives c.args.a.now.bits c.args.b.now.bits c.args.builder.now wa wb c.args.op
    (record { circuit = c.vars.ensures.circuit; first = c.requires.first; second = c.requires.second; room = c.requires.room }))
