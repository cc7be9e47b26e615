use Rattle.std.proofs.Common.{rules, ◌≡◌, ◌+◌, ◌<◌, ◌++◌, ◌∷◌, [], List, Some, length, take, refl, sym, ap, subst, ◌∙◌, arith}
use Rattle.std.specs.Prelude.{slice_get}
use Rattle.std.proofs.lemmas.List.{take_more, take_all}
use Rattle.std.proofs.lemmas.Option.{slice_get_read}
use Rattle.prv_check.specs.LogLines.{LogLine}
use Rattle.prv_check.specs.Lines.{known}
use Rattle.prv_check.specs.Spending.{IsLearnt}
use Rattle.prv_check.specs.BadLines.{AreGood}
use Rattle.prv_check.specs.Inner.Indexing.{IsIndex}
use Rattle.prv_check.specs.Inner.Testing.{AreReady}
use Rattle.prv_check.proofs.Judging.{good_more, good_all}
use Rattle.prv_check.proofs.spent.first_unlearnt.Goals as goal

pub loop-at-preserved : goal.loop-at-preserved
loop-at-preserved c =
    let f = c.args.cnf.now in
    let lines : List LogLine = c.args.lines.now in
    let line : LogLine = c.index-lines-at.result in
    let added : LogLine = c.index-lines-at-in-loop-at.result in
    let inside : c.loop-at.at < length lines = omega arith in
    let here : slice_get lines c.loop-at.at ≡ Some line = slice_get_read lines (length lines) c.loop-at.at line refl inside c.index-lines-at.is in
    let learnt : IsLearnt f (take c.loop-at.at lines) line = search rules in
    let more : take (c.loop-at.at + 1) lines ≡ take c.loop-at.at lines ++ added ∷ [] =
    take_more lines c.loop-at.at added inside ∙ ap (λ (s : LogLine). take c.loop-at.at lines ++ s ∷ []) (sym c.index-lines-at-in-loop-at.is) in
    let P : List LogLine → Type 0 = λ ls. IsIndex (known f ls) c.index_line.new.index in
    let occurs = c.in_ok-index_line.ensures.occurs in
    record {
      good = good_more (IsLearnt f) lines c.loop-at.at line c.loop-at.invariant.good here learnt;
      ready = record {
        index = subst P (sym more) c.in_ok-index_line.ensures.index;
        places = ap length occurs ∙ c.is_learnt.ensures.ready.places;
        clean = c.is_learnt.ensures.ready.clean;
        vars = c.is_learnt.ensures.ready.vars;
        table = c.is_learnt.ensures.ready.table;
      };
      same = record {
        occurs = occurs ∙ c.is_learnt.ensures.same.occurs ∙ c.loop-at.invariant.same.occurs;
        room = c.is_learnt.ensures.same.room ∙ c.loop-at.invariant.same.room;
        named = c.is_learnt.ensures.same.named ∙ c.loop-at.invariant.same.named;
      };
    }

pub returns-clause-first : goal.returns-clause-first
returns-clause-first c =
    let f = c.args.cnf.now in
    let lines : List LogLine = c.args.lines.now in
    let end : length lines ≡ c.loop-at.at = omega arith in
    let good : AreGood (IsLearnt f) lines (length lines) = rw end c.loop-at.invariant.good in
    let all : take c.loop-at.at lines ≡ lines = take_all c.loop-at.at lines (omega arith) in
    let P : List LogLine → Type 0 = λ ls. AreReady f ls c.loop-at.tests in
    (good_all (IsLearnt f) lines good, subst P all c.loop-at.invariant.ready)
