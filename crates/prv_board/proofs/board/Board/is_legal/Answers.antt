use Rattle.prv_board.specs.Kept.{replay_of}
use Rattle.prv_board.proofs.LegalLaws.{legal-replay}
use Rattle.prv_board.proofs.board.Board.is_legal.Goals as goal

pub returns-clause-legal : goal.returns-clause-legal
returns-clause-legal c = rw (← c.self.view_is) (legal-replay (replay_of c.self.inside) c.self.invariant.tree.replay c.self.invariant.tree.settlements)
