use Rattle.prv_settle.proofs.Supporting.{supported-true}
use Rattle.prv_settle.proofs.laws.supported_settlements_are_true.Goals as goal

pub returns : goal.returns
returns c = supported-true
