use Rattle.prv_general.proofs.SliceLaws.{fixes-outcome}
use Rattle.prv_general.proofs.laws.slice_fixes_outcome.Goals as goal

pub returns : goal.returns
returns c = fixes-outcome
