use Rattle.prv_part.proofs.Overs.{parts-over}
use Rattle.prv_part.proofs.laws.parts_are_over_parameters.Goals as goal

pub returns : goal.returns
returns c = parts-over
