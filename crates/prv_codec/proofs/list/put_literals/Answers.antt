use Rattle.std.proofs.Common.{arith}
use Rattle.std.proofs.lemmas.Grind.{common_steps}
use Rattle.std.proofs.lemmas.List.Elements.{All-more}
use Rattle.prv_codec.specs.Spelling.{IsLiteral}
use Rattle.prv_codec.proofs.list.put_literals.Goals as goal

pub loop-lit-preserved : goal.loop-lit-preserved
loop-lit-preserved c = record {
  written = grind (arith, common_steps);
  fits = All-more IsLiteral c.args.lits.now c.loop-lit.lit-index _ c.loop-lit-test.true c.loop-lit.invariant.fits c.put_literal.ensures.fits;
}
