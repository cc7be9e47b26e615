use Rattle.std.proofs.Common.{◌≡◌, ◌-◌, ◌/◌, ◌^◌, length, map, drop}
use Rattle.prv_bits.specs.Numbers.{digits}
use Rattle.prv_gate.specs.Bits.{constant}
use Rattle.prv_blast.proofs.encoder.number_word.Given as goal

abbrev pub invariant-loop-i : goal.invariant-loop-i
invariant-loop-i l = record {
  made : drop l.i l.bits ≡ map constant (digits (32 - l.i) l.initial.rest);
  rest : l.rest ≡ l.initial.rest / 2 ^ (32 - l.i);
  long : length l.bits ≡ 32;
}
