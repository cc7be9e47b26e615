use Rattle.std.proofs.Common.{List, ℕ, ap, ◌∙◌, subst}
use Rattle.std.specs.Io.KnownBytes.{append_known}
use Rattle.prv_io.specs.Sink.{TakesPart}
use Rattle.prv_cli.specs.Steps.{Shown}
use Rattle.prv_cli.proofs.Following.{wrote-all, wrote-part}
use Rattle.prv_cli.proofs.report.write_report.Goals as goal

pub returns-in-Ok-clause-written : goal.returns-in-Ok-clause-written
returns-in-Ok-clause-written g c = λ told.
    wrote-all told c.args.report.now c.report.inside.status (g.O.Sink.taken c.args.out.now) _ (ap (λ (s : Shown). s.status) c.report.view_is)
    (c.in-Ok.ensures.taken ∙ ap (λ (bytes : List ℕ). append_known (g.O.Sink.taken c.args.out.now) bytes) (c.as_slice.ensures.value ∙ ap (λ (s : Shown). s.text) c.report.view_is))

pub returns-in-Err-clause-written : goal.returns-in-Err-clause-written
returns-in-Err-clause-written g c = λ told.
    wrote-part told c.args.report.now (g.O.Sink.taken c.args.out.now) (g.O.Sink.taken c.write_all.new.out)
    (subst (λ bytes. TakesPart (g.O.Sink.taken c.args.out.now) (g.O.Sink.taken c.write_all.new.out) bytes) (c.as_slice.ensures.value ∙ ap (λ (s : Shown). s.text) c.report.view_is) c.in-Err.ensures.part)
