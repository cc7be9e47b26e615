use Rattle.std.proofs.Common.{codes}
use Rattle.std.proofs.lemmas.Result.{err_from_is_err_and}
use Rattle.prv_line.specs.Commands.{defaults}
use Rattle.prv_line.specs.Options.{all_options}
use Rattle.prv_line.specs.Views.{settings_of, texts}
use Rattle.prv_line.proofs.CommandLemmas.{live, all_settings, all_settings_begin}
use Rattle.prv_line.proofs.ResumeLemmas.{told_by}
use Rattle.prv_line.proofs.Slots.{named, refused_at_name, refused_at_second, told_past_names}
use Rattle.prv_line.proofs.reader.read_live.Goals as goal

pub returns-in_default : goal.returns-in_default
returns-in_default c = refused_at_name (named all_settings) (codes "live") live (texts c.args.words.now) c.in_default.ensures

pub returns-in_default-take_name : goal.returns-in_default-take_name
returns-in_default-take_name c =
    refused_at_second all_settings (codes "live") live all_settings_begin (texts c.args.words.now) (texts c.in-Some.words.now) c.in-Some.before.now
    c.in-Some.ensures.1 c.in-Some.ensures.0 c.in_default-take_name.ensures

pub returns-in_err-settings : goal.returns-in_err-settings
returns-in_err-settings c =
    let passed = err_from_is_err_and c.from_residual.result c.from_residual.ensures.1 in
    let fault = c.in_err-settings.field-0.0 in
    let rest = texts c.in-Some-take_name.words.now in
    let told = told_by c.all.result all_options (settings_of c.new.result) defaults rest 3 fault c.all.ensures c.new.ensures c.in_err-settings.ensures.err in
    rw (passed.1, passed.2) (told_past_names all_settings (codes "live") live all_settings_begin (texts c.args.words.now) (texts c.in-Some.words.now) rest
    c.in-Some.before.now c.in-Some-take_name.after.now c.in-Some.ensures.1 c.in-Some.ensures.0 c.in-Some-take_name.ensures.1 c.in-Some-take_name.ensures.0 fault told)
