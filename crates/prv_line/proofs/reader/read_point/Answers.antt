use Rattle.std.proofs.Common.{codes}
use Rattle.std.proofs.lemmas.Result.{err_from_is_err_and}
use Rattle.prv_line.specs.Readings.{Inputs}
use Rattle.prv_line.specs.Views.{texts}
use Rattle.prv_line.proofs.CommandLemmas.{point}
use Rattle.prv_line.proofs.InputLemmas.{inputs_begin}
use Rattle.prv_line.proofs.Slots.{named, refused_at_name, refused_at_second, told_past_names}
use Rattle.prv_line.proofs.reader.read_point.Goals as goal

pub returns-in_default : goal.returns-in_default
returns-in_default c = refused_at_name (named Inputs) (codes "point") point (texts c.args.words.now) c.in_default.ensures

pub returns-in_default-take_name : goal.returns-in_default-take_name
returns-in_default-take_name c =
    refused_at_second Inputs (codes "point") point inputs_begin (texts c.args.words.now) (texts c.in-Some.words.now) c.in-Some.before.now
    c.in-Some.ensures.1 c.in-Some.ensures.0 c.in_default-take_name.ensures

pub returns-in_err-input : goal.returns-in_err-input
returns-in_err-input c =
    let passed = err_from_is_err_and c.from_residual.result c.from_residual.ensures.1 in
    let fault = c.in_err-input.field-0.0 in
    rw (passed.1, passed.2) (told_past_names Inputs (codes "point") point inputs_begin (texts c.args.words.now) (texts c.in-Some.words.now) (texts c.in-Some-take_name.words.now)
    c.in-Some.before.now c.in-Some-take_name.after.now c.in-Some.ensures.1 c.in-Some.ensures.0 c.in-Some-take_name.ensures.1 c.in-Some-take_name.ensures.0 fault c.in_err-input.ensures.err)
