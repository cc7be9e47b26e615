use Rattle.std.proofs.lemmas.Result.{err_from_is_err_and}
use Rattle.prv_line.specs.Readings.{Inputs}
use Rattle.prv_line.specs.Views.{texts}
use Rattle.std.proofs.Common.{codes}
use Rattle.prv_line.proofs.CommandLemmas.{run}
use Rattle.prv_line.proofs.Slots.{refused_at_name, told_past_name}
use Rattle.prv_line.proofs.reader.read_run.Goals as goal

pub returns-in_default : goal.returns-in_default
returns-in_default c = refused_at_name Inputs (codes "run") run (texts c.args.words.now) c.in_default.ensures

pub returns-in_err-input : goal.returns-in_err-input
returns-in_err-input c =
    let passed = err_from_is_err_and c.from_residual.result c.from_residual.ensures.1 in
    let fault = c.in_err-input.field-0.0 in
    rw (passed.1, passed.2) (told_past_name Inputs (codes "run") run (texts c.args.words.now) (texts c.in-Some.words.now) c.in-Some.file.now c.in-Some.ensures.1 c.in-Some.ensures.0 fault c.in_err-input.ensures.err)
