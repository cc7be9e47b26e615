use Rattle.std.proofs.Common.{inl}
use Rattle.std.proofs.lemmas.Result.{err_from_is_err_and}
use Rattle.prv_gen.specs.Generated.{before_text, after_text}
use Rattle.prv_line.specs.declared.limits.TheConstants.{TURNS}
use Rattle.prv_line.specs.Commands.{defaults}
use Rattle.prv_text.specs.Boards.{generated_report}
use Rattle.prv_cli.specs.Pairings.{pair_of_texts}
use Rattle.prv_cli.specs.Explores.{plan_of, show_exploration}
use Rattle.prv_cli.proofs.Following.{nothing-both}
use Rattle.prv_cli.proofs.generate.explore_generated.Goals as goal

pub returns-in_err-pair-clause-done : goal.returns-in_err-pair-clause-done
returns-in_err-pair-clause-done g c = λ told.
    let passed = err_from_is_err_and c.from_residual-in_err-pair.result c.from_residual-in_err-pair.ensures.1 in
    let texts = c.in_ok-texts.ensures in
    rw (passed.1, passed.2, ← texts.before, ← texts.after, ← c.as_slice.ensures.value, ← c.as_slice-2.ensures.value) (inl (c.in_err-pair.ensures.done told))

pub returns-clause-done : goal.returns-clause-done
returns-clause-done g c = λ told.
    let number = c.args.number in
    let size = c.args.size in
    let texts = c.in_ok-texts.ensures in
    let paired = rw (c.as_slice.ensures.value, c.as_slice-2.ensures.value, texts.before, texts.after) at (c.in_ok-pair.ensures.done told) in
    nothing-both told (pair_of_texts TURNS.default (before_text number size) (after_text number size)) (show_exploration (generated_report number size) (plan_of defaults)) c.in_ok-pair.pair c.show_generated.result paired (c.show_generated.ensures.shown told)
