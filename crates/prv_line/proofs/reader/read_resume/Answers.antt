use Rattle.std.proofs.Common.{codes}
use Rattle.std.proofs.lemmas.Result.{err_from_is_err_and}
use Rattle.prv_line.specs.Commands.{defaults}
use Rattle.prv_line.specs.Options.{resume_options}
use Rattle.prv_line.specs.Views.{settings_of, texts}
use Rattle.prv_line.proofs.ResumeLemmas.{resume, resume_settings, resume_ok, told_by, made_by}
use Rattle.prv_line.proofs.Slots.{refused_at_name, told_past_name}
use Rattle.prv_line.proofs.reader.read_resume.Goals as goal

pub returns-in_default : goal.returns-in_default
returns-in_default c = refused_at_name resume_settings (codes "resume") resume (texts c.args.words.now) c.in_default.ensures

pub returns-in_err-settings : goal.returns-in_err-settings
returns-in_err-settings c =
    let passed = err_from_is_err_and c.from_residual.result c.from_residual.ensures.1 in
    let fault = c.in_err-settings.field-0.0 in
    let rest = texts c.in-Some.words.now in
    let told = told_by c.of_resume.result resume_options (settings_of c.new.result) defaults rest 2 fault c.of_resume.ensures c.new.ensures c.in_err-settings.ensures.err in
    rw (passed.1, passed.2) (told_past_name resume_settings (codes "resume") resume (texts c.args.words.now) rest c.in-Some.journal.now c.in-Some.ensures.1 c.in-Some.ensures.0 fault told)

pub returns : goal.returns
returns c =
    let rest = texts c.in-Some.words.now in
    let made = settings_of c.in_ok-settings.settings in
    resume_ok c.in-Some.journal.now made (texts c.args.words.now) c.in-Some.ensures.0 rest c.in-Some.ensures.1
    (made_by c.of_resume.result resume_options (settings_of c.new.result) defaults made rest c.of_resume.ensures c.new.ensures c.in_ok-settings.ensures.ok)
