use Rattle.prv_line.proofs.Uniqueness.{one_reading}
use Rattle.prv_line.proofs.laws.one_command.Goals as goal

pub returns : goal.returns
returns c = one_reading
