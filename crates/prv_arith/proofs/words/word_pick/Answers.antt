use Rattle.std.proofs.Common.{◌≡◌, length, arith}
use Rattle.prv_arith.specs.Lists.{AllBits}
use Rattle.prv_arith.specs.Costs.{pick_cost}
use Rattle.prv_arith.specs.Words.{word_value, pick_bits}
use Rattle.prv_arith.proofs.ListLaws.{bits-more}
use Rattle.prv_arith.proofs.LoopLaws.{gives-along}
use Rattle.prv_arith.proofs.RunLaws.{pick-run}
use Rattle.prv_arith.proofs.OperatorLaws.{pick_bits-gives}
use Rattle.prv_arith.proofs.words.word_pick.Goals as goal

pub some-requires-clause-ready : goal.some-requires-clause-ready
some-requires-clause-ready c =
    let wc : length c.args.c.now.bits ≡ 32 = omega arith in
    record { circuit = c.vars.ensures.circuit; first = c.requires.selector; second = c.requires.selector; room = omega (arith, c.requires.room) }

pub pair-requires-clause-ready : goal.pair-requires-clause-ready
pair-requires-clause-ready c =
    let wc : length c.args.c.now.bits ≡ 32 = omega arith in
    let wa : length c.args.a.now.bits ≡ 32 = omega arith in
    let g = c.in_ok-chosen.ensures.gives.grows in
    let n = c.args.builder.now.formula.vars in
    let m = c.some.new.builder.formula.vars in
    record {
      circuit = g.circuit;
      first = bits-more n m c.args.a.now.bits g.vars_kept c.requires.first;
      second = bits-more n m c.args.b.now.bits g.vars_kept c.requires.second;
      room = omega (arith, c.requires.room, g.vars_cost);
    }

pub returns-clause-run : goal.returns-clause-run
returns-clause-run c =
    pick-run c.args.c.now.bits c.args.a.now.bits c.args.b.now.bits c.pair.new.out c.in_ok-chosen.chosen c.args.builder.now c.some.new.builder c.pair.new.builder c.in_ok-chosen.ensures.run c.in_ok-pair.ensures.run

pub returns-clause-gives : goal.returns-clause-gives
returns-clause-gives c =
    let wa : length c.args.a.now.bits ≡ 32 = omega arith in
    let wb : length c.args.b.now.bits ≡ 32 = omega arith in
    let wc : length c.args.c.now.bits ≡ 32 = omega arith in
    gives-along AllBits word_value pick_cost c.args.builder.now (record { out = c.pair.new.out; circuit = c.pair.new.builder }) (pick_bits c.args.c.now.bits c.args.a.now.bits c.args.b.now.bits c.args.builder.now) _
    (pick-run c.args.c.now.bits c.args.a.now.bits c.args.b.now.bits c.pair.new.out c.in_ok-chosen.chosen c.args.builder.now c.some.new.builder c.pair.new.builder c.in_ok-chosen.ensures.run c.in_ok-pair.ensures.run)
    (pick_bits-gives c.args.a.now.bits c.args.b.now.bits c.args.builder.now wa wb c.args.c.now.bits wc c.requires.selector
    (record { circuit = c.vars.ensures.circuit; first = c.requires.first; second = c.requires.second; room = c.requires.room }))

pub pair-requires-clause-inside : goal.pair-requires-clause-inside
pair-requires-clause-inside c = c.in_ok-chosen.ensures.gives.inside
