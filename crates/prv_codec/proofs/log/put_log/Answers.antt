use Rattle.std.proofs.Common.{◌≡◌, ◌∙◌, take, All, subst, arith}
use Rattle.std.proofs.lemmas.Grind.{common_steps}
use Rattle.std.proofs.lemmas.List.{take_all}
use Rattle.std.proofs.lemmas.List.Elements.{All-more}
use Rattle.prv_codec.specs.Spelling.{IsLine}
use Rattle.prv_codec.proofs.Fits.{log_fits}
use Rattle.prv_codec.proofs.log.put_log.Goals as goal

pub loop-line-preserved : goal.loop-line-preserved
loop-line-preserved c = record {
  written = grind (arith, common_steps);
  fits = All-more IsLine c.lines-lines.result.now c.loop-line.line-index c.line-item.result c.loop-line-test.true c.loop-line.invariant.fits (subst IsLine c.line-item.is c.in_ok-put_line.ensures.fits);
}

pub returns-clause-fits : goal.returns-clause-fits
returns-clause-fits c =
    let all : take c.loop-line.line-index c.lines-lines.result.now ≡ c.args.log.now = take_all _ _ (omega arith) ∙ c.lines-lines.ensures in
    log_fits c.args.log.now c.requires.few (subst (All IsLine) all c.loop-line.invariant.fits)
