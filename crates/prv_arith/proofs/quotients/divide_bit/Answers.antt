use Rattle.std.proofs.Common.{◌+◌, ◌*◌, ◌<◌, length, sym, subst, arith, List, length-take}
use Rattle.prv_gate.specs.declared.bit.Bit.{Bit}
use Rattle.prv_arith.specs.Lists.{IsReady}
use Rattle.prv_arith.proofs.StepLaws.{placed, left-run}
use Rattle.prv_arith.proofs.quotients.divide_bit.Goals as goal

pub trimmed_step-requires-clause-ready : goal.trimmed_step-requires-clause-ready
trimmed_step-requires-clause-ready c =
    let lt : c.args.width < length c.args.rest.now = omega arith in
    let P : List Bit → Type 0 = λ l. IsReady (18 * length c.args.divisor.now + 9) c.args.builder.now c.args.divisor.now l in
    subst P (sym (placed c.args.rest.now c.args.width c.args.bit lt)) c.requires.ready

pub returns-clause-run : goal.returns-clause-run
returns-clause-run c =
    let lt : c.args.width < length c.args.rest.now = omega arith in
    left-run c.args.divisor.now _ _ c.trimmed_step.new.out c.copy_from_slice.new.self _ _ c.min-room.result c.in_ok-fits.skipped c.args.builder.now c.trimmed_step.new.builder c.in_ok-fits.fits
    (omega (arith, length-take {A = Bit})) (omega (arith, length-take {A = Bit}, c.in_ok-fits.ensures.bound)) c.copy_from_slice.ensures.after (placed c.args.rest.now c.args.width c.args.bit lt) c.in_ok-fits.ensures.run
