use Rattle.prv_board.proofs.ApplyingLaws.{applying-decided}
use Rattle.prv_board.proofs.laws.applying_is_decided.Goals as goal

pub returns : goal.returns
returns c = applying-decided
