use Rattle.std.proofs.Common.{◌≡◌, ℕ, ◌-◌, ◌∙◌, map, drop, sym, ap, arith, length-set}
use Rattle.std.specs.Int.{w32, cast_unsigned}
use Rattle.std.proofs.lemmas.Int.{to_z-of_z}
use Rattle.prv_bits.specs.Numbers.{digits}
use Rattle.prv_gate.specs.Bits.{constant}
use Rattle.prv_blast.proofs.Bits.{digit-more, rest-more}
use Rattle.prv_blast.proofs.encoder.number_word.Goals as goal

pub loop-i-preserved : goal.loop-i-preserved
loop-i-preserved c =
    let old = c.loop-i.invariant in
    let some = c.loop-i-test.true in
    record {
      made = digit-more 32 c.loop-i.i c.cast_unsigned-rest.result c.loop-i.rest c.loop-i.bits c.from.result (omega arith) (omega arith) old.long old.made old.rest c.from.ensures;
      rest = rest-more 32 c.loop-i.i c.cast_unsigned-rest.result c.loop-i.rest (omega arith) (omega arith) old.rest;
      long = length-set c.loop-i.bits (c.loop-i.i - 1) c.from.result ∙ old.long;
    }

pub returns : goal.returns
returns c =
    let none : c.loop-i.i ≡ 0 = omega arith in
    sym (ap (λ (k : ℕ). drop k c.loop-i.bits) none) ∙ c.loop-i.invariant.made ∙ ap (λ (k : ℕ). map constant (digits (32 - k) c.cast_unsigned-rest.result)) none ∙ ap (λ (n : ℕ). map constant (digits 32 n)) (c.cast_unsigned-rest.ensures ∙ ap (cast_unsigned w32) (to_z-of_z w32 c.args.number c.ranges.number))
