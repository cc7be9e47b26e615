use Rattle.prv_settle.proofs.OnBoards.{on-board}
use Rattle.prv_settle.proofs.laws.open_entries_take_supported_settlements.Goals as goal

pub returns : goal.returns
returns c = on-board
