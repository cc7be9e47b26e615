use Rattle.prv_dep.proofs.OverwriteLaws.{overwritten-written}
use Rattle.prv_dep.proofs.laws.overwritten_is_written.Goals as goal

pub returns : goal.returns
returns c = overwritten-written
