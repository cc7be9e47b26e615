use Rattle.std.proofs.Common.{ap, sym, ◌∙◌, Err}
use Rattle.prv_cli.specs.Refusals.{refusal_number}
use Rattle.prv_cli.specs.declared.status.Status.{Status}
use Rattle.prv_cli.proofs.Numbers.{five-is-read, six-is-write, no-read, no-write}
use Rattle.prv_cli.proofs.top.plain.Goals as goal

pub returns-in-Err-clause-read_fault : goal.returns-in-Err-clause-read_fault
returns-in-Err-clause-read_fault g c = λ five. c.in-Err.ensures.read_fault (ap (λ e. Err e) (five-is-read c.in-Err.refusal (sym c.refuse.ensures.number ∙ five)))

pub returns-in-Err-clause-no_read_fault : goal.returns-in-Err-clause-no_read_fault
returns-in-Err-clause-no_read_fault g c = λ other. no-read Status c.in-Err.refusal _ (λ is. other (c.refuse.ensures.number ∙ ap refusal_number is)) c.in-Err.ensures.no_read_fault

pub returns-in-Err-clause-write_fault : goal.returns-in-Err-clause-write_fault
returns-in-Err-clause-write_fault g c = λ six. c.in-Err.ensures.write_fault (ap (λ e. Err e) (six-is-write c.in-Err.refusal (sym c.refuse.ensures.number ∙ six)))

pub returns-in-Err-clause-no_write_fault : goal.returns-in-Err-clause-no_write_fault
returns-in-Err-clause-no_write_fault g c = λ other. no-write Status c.in-Err.refusal _ (λ is. other (c.refuse.ensures.number ∙ ap refusal_number is)) c.in-Err.ensures.no_write_fault
