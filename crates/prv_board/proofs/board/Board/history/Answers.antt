use Rattle.std.proofs.Common.{ap, arith}
use Rattle.prv_board.specs.Kept.{replay_of}
use Rattle.prv_board.specs.declared.totals.Totals.{Totals}
use Rattle.prv_board.proofs.KeptLaws.{few-settlements}
use Rattle.prv_board.proofs.board.Board.history.Goals as goal

pub returns-clause-few : goal.returns-clause-few
returns-clause-few c =
    let tree = c.self.invariant.tree in
    let sums = ap (λ (t : Totals). t.numbers) tree.totals in
    rw (← c.self.view_is) (omega (arith, few-settlements (replay_of c.self.inside).history tree.settlements, sums, tree.fits.numbers, tree.caps.few_numbers))
