use Rattle.std.proofs.Common.{rules, ◌≡◌, ◌<◌, Some, length, take, refl, arith}
use Rattle.std.specs.Prelude.{slice_get}
use Rattle.std.proofs.lemmas.Option.{slice_get_read}
use Rattle.prv_check.specs.BadLines.{IsDerived}
use Rattle.prv_check.proofs.Judging.{good_more}
use Rattle.prv_check.proofs.refutation.first_underived.Goals as goal

pub loop-at-preserved : goal.loop-at-preserved
loop-at-preserved c =
    let lines = c.args.lines.now in
    let line = c.index-lines-at.result in
    let inside : c.loop-at.at < length lines = omega arith in
    let here : slice_get lines c.loop-at.at ≡ Some line = slice_get_read lines (length lines) c.loop-at.at line refl inside c.index-lines-at.is in
    let derived : IsDerived c.args.cnf.now (take c.loop-at.at lines) line = search rules in
    record {
      good = good_more (IsDerived c.args.cnf.now) lines c.loop-at.at line c.loop-at.invariant.good here derived;
      clean = grind arith;
      vars = grind arith;
      room = grind arith;
      named = grind arith;
    }
