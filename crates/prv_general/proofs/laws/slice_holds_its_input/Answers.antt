use Rattle.prv_general.proofs.SliceLaws.{holds-member}
use Rattle.prv_general.proofs.laws.slice_holds_its_input.Goals as goal

pub returns : goal.returns
returns c = holds-member
