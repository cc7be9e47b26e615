use Rattle.std.proofs.Common.{◌≡◌, ℕ, ◌-◌, ◌^◌, ◌<◌, ◌≤◌, length, sym, ap, ◌∙◌, arith}
use Rattle.prv_arith.proofs.RunLaws.{up-next}
use Rattle.prv_arith.proofs.StageLaws.{up-place, by-bound, by-next}
use Rattle.prv_arith.proofs.shifts.shift_up.Goals as goal

pub raise-up-requires : goal.raise-up-requires
raise-up-requires c =
    let low : 0 < c.loop-i.i = omega arith in
    by-bound c.loop-i.by c.loop-i.i low c.loop-i.invariant.by

pub pair-requires : goal.pair-requires
pair-requires c =
    let low : 0 < c.loop-i.i = omega arith in
    let high : c.loop-i.i ≤ 5 = omega arith in
    let wa : length c.args.amount.now ≡ 5 = omega arith in
    let wb : length c.args.bits.now ≡ 32 = omega arith in
    let here = up-place c.args.amount.now c.args.bits.now c.loop-i.moved c.raise-up.result c.loop-i.i c.loop-i.by c.args.builder.now c.loop-i.builder wa wb c.requires.ready low high c.raise-up.ensures c.loop-i.invariant.run in
    record { inside = here.0; ready = here.1; width = omega arith; space = omega arith }

pub loop-i-preserved : goal.loop-i-preserved
loop-i-preserved c =
    let low : 0 < c.loop-i.i = omega arith in
    let wa : length c.args.amount.now ≡ 5 = omega arith in
    let high : c.loop-i.i ≤ length c.args.amount.now = omega arith in
    let at : c.loop-i.by ≡ 2 ^ (length c.args.amount.now - c.loop-i.i) = c.loop-i.invariant.by ∙ sym (ap (λ (n : ℕ). 2 ^ (n - c.loop-i.i)) wa) in
    record {
      run = up-next c.args.amount.now c.args.bits.now c.loop-i.moved c.raise-up.result c.pair.new.out c.loop-i.i (c.loop-i.i - 1) c.loop-i.by c.args.builder.now c.loop-i.builder c.pair.new.builder (omega arith) high at c.raise-up.ensures c.loop-i.invariant.run c.in_ok-pair.ensures.run;
      by = by-next c.loop-i.by c.loop-i.i low (omega arith) c.loop-i.invariant.by;
    }
