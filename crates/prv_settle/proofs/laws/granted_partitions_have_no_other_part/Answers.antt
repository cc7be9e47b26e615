use Rattle.prv_settle.proofs.OtherParts.{granted-none}
use Rattle.prv_settle.proofs.laws.granted_partitions_have_no_other_part.Goals as goal

pub returns : goal.returns
returns c = granted-none
