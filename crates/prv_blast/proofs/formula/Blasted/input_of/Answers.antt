use Rattle.std.proofs.Common.{◌+◌, ◌*◌, map}
use Rattle.std.proofs.lemmas.List.FromFn.{length-map-range_with_len}
use Rattle.prv_cnf.specs.Models.{values_of}
use Rattle.prv_blast.specs.Inputs.{variables}
use Rattle.prv_blast.proofs.Bits.{word-more, passed-word}
use Rattle.prv_blast.proofs.formula.Blasted.input_of.Goals as goal

pub loop-k-preserved : goal.loop-k-preserved
loop-k-preserved c =
    let v = values_of c.args.values.now in
    let k = c.loop-k.k in
    word-more k v c.loop-k.input c.push.new.self _ c.in_ok-push.ensures.ok (passed-word c.word_at.result (map v (variables k)) (length-map-range_with_len v (32 * k + 1) 32) c.word_at.ensures) c.loop-k.invariant
