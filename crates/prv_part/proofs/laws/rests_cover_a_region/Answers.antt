use Rattle.prv_part.proofs.Covering.{whole-covers, split-covers}
use Rattle.prv_part.proofs.laws.rests_cover_a_region.Goals as goal

pub returns-clause-whole : goal.returns-clause-whole
returns-clause-whole c = whole-covers

pub returns-clause-split : goal.returns-clause-split
returns-clause-split c = split-covers
