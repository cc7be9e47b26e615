use Rattle.std.proofs.Common.{ℕ, ◌∙◌, ◌*◌, ◌+◌, map, ap, arith, length-set}
use Rattle.std.specs.List.{range_with_len}
use Rattle.prv_blast.proofs.Bits.{variable_bit, bit-more, all-variables}
use Rattle.prv_blast.proofs.encoder.param_word.Goals as goal

pub loop-i-preserved : goal.loop-i-preserved
loop-i-preserved c = record {
  made = bit-more (32 * c.from.result + 1) c.loop-i.i (32 * c.from.result + 1 + c.loop-i.i) c.loop-i.bits c.variable_bit.result (omega arith) c.loop-i.invariant.made c.variable_bit.ensures (omega arith);
  long = length-set c.loop-i.bits c.loop-i.i c.variable_bit.result ∙ c.loop-i.invariant.long;
}

pub returns : goal.returns
returns c = all-variables (32 * c.from.result + 1) 32 c.loop-i.i c.loop-i.bits c.loop-i.invariant.long (omega arith) c.loop-i.invariant.made ∙ ap (λ (k : ℕ). map variable_bit (range_with_len (32 * k + 1) 32)) c.from.ensures
