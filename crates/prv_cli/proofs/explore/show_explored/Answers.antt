use Rattle.std.proofs.Common.{refl}
use Rattle.prv_cli.proofs.explore.show_explored.Goals as goal

pub returns-clause-shown : goal.returns-clause-shown
returns-clause-shown g c = λ told. (
  refl,
  record {
    board = c.in_ok-explored.explored.board.replay;
    ended = c.in_ok-explored.explored.ended;
    explored = c.in_ok-explored.ensures.explored;
    legal = c.in_ok-explored.ensures.legal;
    shown_is = cc (c.in_ok-text.ensures, c.board_status-status.ensures);
  },
)
