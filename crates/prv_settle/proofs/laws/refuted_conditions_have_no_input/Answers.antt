use Rattle.prv_settle.proofs.Refuting.{refuted-none}
use Rattle.prv_settle.proofs.laws.refuted_conditions_have_no_input.Goals as goal

pub returns : goal.returns
returns c = refuted-none
