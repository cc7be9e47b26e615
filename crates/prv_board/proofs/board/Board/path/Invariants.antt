use Rattle.std.proofs.Common.{◌≡◌, ◌-◌, length}
use Rattle.prv_board.specs.Paths.{Holds, IsWayTo}
use Rattle.prv_board.specs.Replays.{slots}
use Rattle.prv_board.proofs.board.Board.path.Given as goal

-- the numbers so far are a way to the entry, which holds the input
abbrev pub invariant-loop-next : goal.invariant-loop-next
invariant-loop-next l = record {
  here : Holds (slots l.self.replay) l.input l.number;
  way : IsWayTo l.self.replay l.input l.path.items l.number;
  room : l.scratch ≡ l.fn.scratch;
}

abbrev pub decreases-loop-next : goal.decreases-loop-next
decreases-loop-next l = length (slots l.self.replay) - l.number
