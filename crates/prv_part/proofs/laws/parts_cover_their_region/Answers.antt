use Rattle.prv_part.proofs.Covering.{parts-cover}
use Rattle.prv_part.proofs.laws.parts_cover_their_region.Goals as goal

pub returns : goal.returns
returns c = parts-cover
