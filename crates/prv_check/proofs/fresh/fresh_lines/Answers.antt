use Rattle.std.proofs.Common.{◌≡◌, ◌+◌, ◌<◌, ◌++◌, ◌∷◌, [], None, Some, List, length, take, refl, sym, ap, subst, ◌∙◌, arith}
use Rattle.std.specs.Prelude.{slice_get}
use Rattle.std.proofs.lemmas.List.{take_more}
use Rattle.std.proofs.lemmas.Option.{slice_get_read}
use Rattle.prv_check.specs.LogLines.{LogLine}
use Rattle.prv_check.specs.Lines.{known}
use Rattle.prv_check.specs.Inner.Indexing.{IsIndex}
use Rattle.prv_check.specs.Freshness.{fresh_fault}
use Rattle.prv_check.proofs.Passing.{faultless_more, faultless_all}
use Rattle.prv_check.proofs.fresh.fresh_lines.Goals as goal

pub loop-at-preserved : goal.loop-at-preserved
loop-at-preserved c =
    let lines : List LogLine = c.args.lines.now in
    let line : LogLine = c.index-lines-at.result in
    let added : LogLine = c.index-lines-at-in-loop-at.result in
    let inside : c.loop-at.at < length lines = omega arith in
    let none : fresh_fault c.args.cnf.now (take c.loop-at.at lines) line ≡ None = sym c.fresh_fault-why.ensures.fault ∙ c.in_default.is in
    let here : slice_get lines c.loop-at.at ≡ Some line = slice_get_read lines (length lines) c.loop-at.at line refl inside c.index-lines-at.is in
    let more : take (c.loop-at.at + 1) lines ≡ take c.loop-at.at lines ++ added ∷ [] =
    take_more lines c.loop-at.at added inside ∙ ap (λ (s : LogLine). take c.loop-at.at lines ++ s ∷ []) (sym c.index-lines-at-in-loop-at.is) in
    let P : List LogLine → Type 0 = λ ls. IsIndex (known c.args.cnf.now ls) c.index_line.new.index in (
      faultless_more (fresh_fault c.args.cnf.now) lines c.loop-at.at line c.loop-at.invariant.0 here none,
      subst P (sym more) c.in_ok-index_line.ensures.index,
      grind arith,
      grind arith,
      grind arith,
      grind arith,
      grind arith,
    )

pub returns-clause-ok : goal.returns-clause-ok
returns-clause-ok c = faultless_all (fresh_fault c.args.cnf.now) c.args.lines.now c.loop-at.at c.loop-at-test.false c.loop-at.invariant.0
