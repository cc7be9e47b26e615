use Rattle.std.proofs.Common.{◌*◌, ◌<◌, ◌≤◌, length, sym, ap, ◌∙◌, arith, List, add-one}
use Rattle.std.proofs.Math.ListN.{drop_of_length-le}
use Rattle.prv_gate.specs.Bits.{IsBit, bit_value}
use Rattle.prv_gate.specs.declared.bit.Bit.{Bit}
use Rattle.prv_arith.specs.Pairs.{some}
use Rattle.prv_arith.proofs.PairLaws.{some-gives}
use Rattle.prv_arith.proofs.RunLaws.{some-next}
use Rattle.prv_arith.proofs.LoopLaws.{gives-along, some-kept}
use Rattle.prv_arith.proofs.pairs.some.Goals as goal

pub loop-bit-preserved : goal.loop-bit-preserved
loop-bit-preserved c =
    let bits = c.args.bits.now in
    let k = c.loop-bit.bit-index in
    let s = c.loop-bit.builder in
    let t = c.or.new.builder in
    let lt : k < length bits = omega arith in
    rw add-one
    (record {
      run = some-next c.loop-bit.found c.in_ok-found.found bits k s t lt c.in_ok-found.ensures.run ∙ c.loop-bit.invariant.run;
      found = c.in_ok-found.ensures.gives.inside;
      ready = some-kept bits k s t lt c.in_ok-found.ensures.gives.grows c.loop-bit.invariant.ready;
    })

pub returns-clause-gives : goal.returns-clause-gives
returns-clause-gives c =
    let bits = c.args.bits.now in
    let k = c.loop-bit.bit-index in
    let s = c.args.builder.now in
    let b = c.loop-bit.builder in
    let over : length bits ≤ k = omega arith in
    gives-along IsBit bit_value (3 * length bits) s (record { out = c.loop-bit.found; circuit = b }) (some c.args.c bits s) _
    (ap (λ (l : List Bit). some c.loop-bit.found l b) (sym (drop_of_length-le bits over)) ∙ c.loop-bit.invariant.run)
    (some-gives c.args.c bits s c.requires.ready.circuit c.requires.first c.requires.ready.first c.requires.ready.room)
