use Rattle.prv_settle.proofs.OnBoards.{determined}
use Rattle.prv_settle.proofs.laws.boards_and_records_determine_settlements.Goals as goal

pub returns : goal.returns
returns c = determined
