use Rattle.std.proofs.Common.{arith}
use Rattle.prv_board.specs.Kept.{replay_of}
use Rattle.prv_board.specs.Replays.{slots}
use Rattle.prv_board.proofs.KeptLaws.{stand-length}
use Rattle.prv_board.proofs.board.Board.next_number.Goals as goal

pub returns : goal.returns
returns c =
    rw (← c.self.view_is)
    (omega (arith, c.len.ensures, c.self.inside.origins.ok, (stand-length c.self.inside.whole (replay_of c.self.inside).history c.self.inside.origins.items c.self.inside.retired.items (slots (replay_of c.self.inside)) c.self.invariant.tree.stand).0))
