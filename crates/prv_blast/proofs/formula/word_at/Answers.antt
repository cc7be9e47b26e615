use Rattle.std.proofs.Common.{◌≡◌, ℕ, ◌+◌, ◌*◌, ◌<◌, ◌^◌, ◌∙◌, map, ap, arith}
use Rattle.std.specs.Int.{w32, cast_signed}
use Rattle.std.specs.List.{range_with_len}
use Rattle.std.proofs.lemmas.List.FromFn.{length-map-range_with_len}
use Rattle.prv_cnf.specs.Models.{values_of}
use Rattle.prv_bits.specs.Numbers.{number}
use Rattle.prv_blast.proofs.Bits.{value-more, value-small, passed-word}
use Rattle.prv_blast.proofs.formula.word_at.Goals as goal

pub overflow_mul-number : goal.overflow_mul-number
overflow_mul-number c =
    let small : 2 * c.loop-i.number + c.from-value.result < 2 ^ 32 = value-small (values_of c.args.values.now) (32 * c.args.param + 1) c.loop-i.i c.loop-i.number c.from-value.result c.value_of.result c.loop-i.invariant (omega arith) c.from-value.ensures in
    omega arith

pub overflow_add-number : goal.overflow_add-number
overflow_add-number c =
    let small : 2 * c.loop-i.number + c.from-value.result < 2 ^ 32 = value-small (values_of c.args.values.now) (32 * c.args.param + 1) c.loop-i.i c.loop-i.number c.from-value.result c.value_of.result c.loop-i.invariant (omega arith) c.from-value.ensures in
    omega arith

pub loop-i-preserved : goal.loop-i-preserved
loop-i-preserved c = value-more (values_of c.args.values.now) (32 * c.args.param + 1) c.loop-i.i c.loop-i.number c.from-value.result c.value_of.result c.loop-i.invariant c.value_of.ensures c.from-value.ensures

pub returns : goal.returns
returns c =
    let all : c.loop-i.i ≡ 32 = omega arith in
    let v = values_of c.args.values.now in
    let first = 32 * c.args.param + 1 in
    passed-word c.cast_signed.result (map v (range_with_len first 32)) (length-map-range_with_len v first 32)
    (c.cast_signed.ensures ∙ ap (cast_signed w32) (c.loop-i.invariant ∙ ap (λ (k : ℕ). number (map v (range_with_len first k))) all))
