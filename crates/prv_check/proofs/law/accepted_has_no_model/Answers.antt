use Rattle.prv_check.proofs.Refuting.{accepted_refutes}
use Rattle.prv_check.proofs.law.accepted_has_no_model.Goals as goal

pub returns : goal.returns
returns c = accepted_refutes
