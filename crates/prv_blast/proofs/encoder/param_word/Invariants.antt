use Rattle.std.proofs.Common.{◌≡◌, ℕ, ◌+◌, ◌<◌, length, get_or}
use Rattle.prv_gate.specs.declared.bit.Bit.TheVariants.{False}
use Rattle.prv_blast.proofs.Bits.{variable_bit}
use Rattle.prv_blast.proofs.encoder.param_word.Given as goal

abbrev pub invariant-loop-i : goal.invariant-loop-i
invariant-loop-i l = record {
  made : (k : ℕ) → k < l.i → get_or l.bits k False ≡ variable_bit (l.first + k);
  long : length l.bits ≡ 32;
}
