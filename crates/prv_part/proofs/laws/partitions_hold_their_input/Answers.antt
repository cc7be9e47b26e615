use Rattle.prv_part.proofs.Partitions.{holds-own}
use Rattle.prv_part.proofs.laws.partitions_hold_their_input.Goals as goal

pub returns : goal.returns
returns c = holds-own
