use Rattle.std.proofs.Common.{◌+◌, ◌<◌, ◌≤◌, length, take, drop, ap, ◌∙◌, refl, arith, List, add-one, length-take}
use Rattle.prv_gate.specs.declared.bit.Bit.{Bit}
use Rattle.prv_arith.specs.Quotients.{divided_on}
use Rattle.prv_arith.proofs.StepLaws.{bit-ready, on-next, on-kept, on-end, placed}
use Rattle.prv_arith.proofs.quotients.divide.Goals as goal

pub loop-i-init : goal.loop-i-init
loop-i-init c = record { run = refl; left = omega arith; bits = tt; ready = c.requires.ready }

pub divide_bit-requires-clause-ready : goal.divide_bit-requires-clause-ready
divide_bit-requires-clause-ready c =
    bit-ready c.args.divisor.now c.args.dividend.now c.loop-i.i c.loop-i-test.true (take c.loop-i.width c.loop-i.rest) c.loop-i.builder c.loop-i.invariant.bits c.loop-i.invariant.ready

pub loop-i-preserved : goal.loop-i-preserved
loop-i-preserved c =
    let d = c.args.divisor.now in
    let x = c.args.dividend.now in
    let i = c.loop-i.i in
    let lt = c.loop-i-test.true in
    let r = take c.loop-i.width c.loop-i.rest in
    let r' = take c.in_ok-fits.kept c.divide_bit.new.rest in
    let short : length r ≤ length d = omega (arith, length-take c.loop-i.width c.loop-i.rest, c.loop-i.invariant.left) in
    let inq : i < length c.loop-i.quotient = omega arith in
    let kept = on-kept d x i lt r r' c.loop-i.builder c.divide_bit.new.builder c.in_ok-fits.fits short c.loop-i.invariant.bits c.loop-i.invariant.ready c.in_ok-fits.ensures.run in
    record {
      run =
          ap (λ (l : List Bit). divided_on d l r' (drop (i + 1) x) c.divide_bit.new.builder) (placed c.loop-i.quotient i c.in_ok-fits.fits inq)
          ∙ rw add-one (on-next d x i lt (take i c.loop-i.quotient) r r' c.loop-i.builder c.divide_bit.new.builder c.in_ok-fits.fits c.in_ok-fits.ensures.run)
          ∙ c.loop-i.invariant.run;
      left = c.in_ok-fits.ensures.left;
      bits = kept.0;
      ready = rw add-one kept.1;
    }

pub returns-clause-run : goal.returns-clause-run
returns-clause-run c =
    on-end c.args.divisor.now c.args.dividend.now c.loop-i.quotient (take c.loop-i.width c.loop-i.rest) c.loop-i.i c.loop-i.builder _ (omega arith) (omega arith) c.loop-i.invariant.run
