use Rattle.std.proofs.Common.{◌≡◌, ◌+◌, ◌++◌, ◌∷◌, [], length, ap, ◌∙◌, arith}
use Rattle.std.proofs.lemmas.List.{length_push}
use Rattle.prv_check.specs.LogLines.{line_numbers}
use Rattle.prv_check.specs.Spending.{IsLearnt, AreLearnt, log_numbers}
use Rattle.prv_sat.proofs.Finishing.{each_push, numbers_push, spent_numbers}
use Rattle.prv_sat.proofs.solver.take_up.Goals as goal

pub returns-then-more-from : goal.returns-then-more-from
returns-then-more-from c =
    let old = c.args.solver.now.state.lines.items in
    let log : c.new-log.result ≡ old = rw c.replace.ensures.value at c.new-log.ensures in
    record {
      working = λ lines less. rw log ((spent_numbers c.args.cnf.now old c.args.line lines c.args.numbers c.requires.learnt c.requires.clause.learnt (omega (arith, c.requires.counted, c.requires.budget)) (omega (arith, c.if-more-from.true, c.from.ensures, c.numbers.ensures.value, c.requires.counted)), less));
    }

pub returns : goal.returns
returns c =
    let old = c.args.solver.now.state.lines.items in
    let f = c.args.cnf.now in
    let new = c.restart_if_due.new.state.lines.items in
    let lines : new ≡ old ++ c.args.line ∷ [] = c.in_ok-restart_if_due.ensures.lines ∙ c.in_ok-adopt.ensures.lines in
    let learnt : AreLearnt f new = rw lines (each_push (IsLearnt f) old c.args.line c.requires.learnt c.requires.clause.learnt) in
    let total : log_numbers new ≡ log_numbers old + line_numbers c.args.line = ap log_numbers lines ∙ numbers_push old c.args.line in
    record {
      working = (
        record {
          ready = c.in_ok-restart_if_due.ensures.ready;
          learnt = learnt;
          counted = omega (arith, total, c.numbers.ensures.value, c.requires.counted);
          budget = omega (arith, c.if-more-from.false, c.from.ensures);
          unmarked = c.requires.unmarked;
          vars = c.requires.vars;
        },
        ap length lines ∙ length_push old c.args.line,
      );
    }
