use Rattle.std.proofs.Common.{length, arith}
use Rattle.prv_arith.proofs.StepLaws.{sum-ready, carry-inside, fit-ready, fits-inside, choice-ready, step-run, low-part, opposite-part}
use Rattle.prv_arith.proofs.quotients.divide_step.Goals as goal

pub sum-requires-clause-ready : goal.sum-requires-clause-ready
sum-requires-clause-ready c =
    let d = c.args.divisor.now in
    let r = c.args.rest.now in
    let o = c.args.opposites.now in
    let w = length c.args.out.now in
    sum-ready d r o _ _ c.args.builder.now c.requires.ready c.requires.short
    (low-part d r w _ c.requires.space (omega arith)) (opposite-part d r o w _ c.requires.opposite c.requires.space (omega arith))

pub fitting-requires : goal.fitting-requires
fitting-requires c =
    let d = c.args.divisor.now in
    let r = c.args.rest.now in
    let o = c.args.opposites.now in
    let w = length c.args.out.now in
    record {
      inside = carry-inside d r o _ _ c.args.builder.now c.requires.ready c.requires.short (low-part d r w _ c.requires.space (omega arith)) (opposite-part d r o w _ c.requires.opposite c.requires.space (omega arith)) c.in_ok-carry.carry c.sum.new.out c.sum.new.builder c.in_ok-carry.ensures.run;
      ready = fit-ready d r o _ _ c.args.builder.now c.requires.ready c.requires.short (low-part d r w _ c.requires.space (omega arith)) (opposite-part d r o w _ c.requires.opposite c.requires.space (omega arith)) c.in_ok-carry.carry c.sum.new.out c.sum.new.builder c.in_ok-carry.ensures.run;
    }

pub pair-requires-clause-inside : goal.pair-requires-clause-inside
pair-requires-clause-inside c =
    let d = c.args.divisor.now in
    let r = c.args.rest.now in
    let o = c.args.opposites.now in
    let w = length c.args.out.now in
    fits-inside d r o _ _ c.args.builder.now c.requires.ready c.requires.short (low-part d r w _ c.requires.space (omega arith)) (opposite-part d r o w _ c.requires.opposite c.requires.space (omega arith)) c.in_ok-carry.carry c.sum.new.out c.sum.new.builder c.in_ok-carry.ensures.run
    c.in_ok-fits.fits c.fitting.new.builder c.in_ok-fits.ensures

pub pair-requires-clause-ready : goal.pair-requires-clause-ready
pair-requires-clause-ready c =
    let d = c.args.divisor.now in
    let r = c.args.rest.now in
    let o = c.args.opposites.now in
    let w = length c.args.out.now in
    choice-ready d r o _ _ c.args.builder.now c.requires.ready c.requires.short (low-part d r w _ c.requires.space (omega arith)) (opposite-part d r o w _ c.requires.opposite c.requires.space (omega arith)) c.in_ok-carry.carry c.sum.new.out c.sum.new.builder c.in_ok-carry.ensures.run
    c.in_ok-fits.fits c.fitting.new.builder c.in_ok-fits.ensures

pub returns : goal.returns
returns c =
    let d = c.args.divisor.now in
    let r = c.args.rest.now in
    let o = c.args.opposites.now in
    let w = length c.args.out.now in
    step-run d r o _ _ c.args.builder.now c.requires.ready c.requires.short (low-part d r w _ c.requires.space (omega arith)) (opposite-part d r o w _ c.requires.opposite c.requires.space (omega arith)) c.in_ok-carry.carry c.sum.new.out c.sum.new.builder c.in_ok-carry.ensures.run
    c.in_ok-fits.fits c.fitting.new.builder c.in_ok-fits.ensures c.pair.new.out c.pair.new.builder c.in_ok-pair.ensures.run
