use Rattle.prv_line.proofs.Existence.{answered-words}
use Rattle.prv_line.proofs.laws.command_or_usage.Goals as goal

pub returns : goal.returns
returns c = answered-words
