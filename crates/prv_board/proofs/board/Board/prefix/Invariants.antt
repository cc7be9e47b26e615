use Rattle.std.proofs.Common.{◌≡◌}
use Rattle.prv_board.specs.Replays.{prefix}
use Rattle.prv_board.proofs.board.Board.prefix.Given as goal

-- the board of the settlements so far
abbrev pub invariant-loop-k : goal.invariant-loop-k
invariant-loop-k l = l.board.replay ≡ prefix l.k l.self.replay
