use Rattle.prv_arith.proofs.RunLaws.{fitting-run}
use Rattle.prv_arith.proofs.quotients.fitting.Goals as goal

pub returns : goal.returns
returns c =
    fitting-run c.args.divisor.now c.args.rest.now c.saturating_sub.result c.saturating_sub-2.result c.args.carry c.in_ok-over.over c.in_ok-above.above c.negated.result c.in_ok-within.within c.in_ok-fits.fits
    c.args.builder.now c.some.new.builder c.some-2.new.builder c.and.new.self c.or.new.builder c.saturating_sub.ensures c.saturating_sub-2.ensures
    c.in_ok-over.ensures.run c.in_ok-above.ensures.run c.negated.ensures.value c.in_ok-within.ensures.run c.in_ok-fits.ensures.run
