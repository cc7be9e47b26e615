use Rattle.prv_line.specs.Readings.{Reads}
use Rattle.prv_line.proofs.Uniqueness.{one_refusal, refused_or_read}
use Rattle.prv_line.proofs.laws.one_usage.Goals as goal

pub returns-clause-one : goal.returns-clause-one
returns-clause-one c = one_refusal Reads

pub returns-clause-no_command : goal.returns-clause-no_command
returns-clause-no_command c = λ words k command. refused_or_read Reads words k command
