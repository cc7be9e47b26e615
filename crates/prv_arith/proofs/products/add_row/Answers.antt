use Rattle.std.proofs.Common.{◌≡◌, length, ap, ◌∙◌, List, take, replicate}
use Rattle.std.proofs.lemmas.List.{take-replicate, length-replicate}
use Rattle.prv_gate.specs.Circuits.{Run}
use Rattle.prv_gate.specs.declared.bit.Bit.{Bit}
use Rattle.prv_gate.specs.declared.bit.Bit.TheVariants.{False}
use Rattle.prv_arith.specs.declared.pairs.PairGate.TheVariants.{And}
use Rattle.prv_arith.specs.Pairs.{paired}
use Rattle.prv_arith.specs.Sums.{added}
use Rattle.prv_arith.proofs.PairLaws.{length-paired}
use Rattle.prv_arith.proofs.RunLaws.{row_added-run, front}
use Rattle.prv_arith.proofs.products.add_row.Goals as goal

pub returns : goal.returns
returns c =
    let row = c.args.row.now in
    let one = c.in_ok-pair.ensures.run ∙ ap (λ (l : List Bit). paired And l row c.args.builder.now) (take-replicate (length row) 32 c.args.y c.requires.short) in
    let w : length c.pair.new.out ≡ length row =
    ap (λ (r : Run (List Bit)). length r.out) one ∙ length-paired And (replicate (length row) c.args.y) row c.args.builder.now (length-replicate (length row) c.args.y) ∙ length-replicate (length row) c.args.y in
    row_added-run c.args.y row c.args.bits.now c.pair.new.out c.add.new.out c.args.builder.now c.pair.new.builder c.add.new.builder one
    (c.in_ok-add.ensures ∙ ap (λ (l : List Bit). added False l (take (length row) c.args.bits.now) c.pair.new.builder) (front (length row) c.pair.new.out _ w))
