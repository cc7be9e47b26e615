use Rattle.prv_arith.proofs.StepLaws.{step-inside, trimmed-run}
use Rattle.prv_arith.proofs.quotients.trimmed_step.Goals as goal

pub leading-skipped-requires : goal.leading-skipped-requires
leading-skipped-requires c =
    step-inside c.args.divisor.now c.args.rest.now c.args.builder.now c.divide_step.new.builder c.in_ok-fits.fits c.divide_step.new.out c.requires.ready c.requires.short c.in_ok-fits.ensures

pub returns-clause-run : goal.returns-clause-run
returns-clause-run c =
    trimmed-run c.args.divisor.now c.args.rest.now c.args.builder.now c.divide_step.new.builder c.in_ok-fits.fits c.divide_step.new.out c.requires.ready c.requires.short
    c.leading-skipped.result c.in_ok-fits.ensures c.leading-skipped.ensures.value
