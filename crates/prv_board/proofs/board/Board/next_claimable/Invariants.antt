use Rattle.std.proofs.Common.{◌≡◌, ℕ, ◌<◌, ◌≤◌, false}
use Rattle.prv_board.specs.Slots.{is_claimable}
use Rattle.prv_board.specs.Replays.{slots}
use Rattle.prv_board.proofs.board.Board.next_claimable.Given as goal

abbrev pub invariant-loop-number : goal.invariant-loop-number
invariant-loop-number l = (k : ℕ) → l.first ≤ k → k < l.number → is_claimable (slots l.self.replay) k l.budget ≡ false
