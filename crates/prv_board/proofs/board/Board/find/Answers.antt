use Rattle.std.proofs.Common.{refl, arith}
use Rattle.prv_board.specs.Replays.{slots}
use Rattle.prv_board.proofs.FindLaws.{holds-first, holds-within}
use Rattle.prv_board.proofs.board.Board.find.Goals as goal

pub loop-next-init : goal.loop-next-init
loop-next-init c = record { here = holds-first c.args.self.now.replay c.args.input.now c.requires.inside; room = refl }

pub loop-next-smaller : goal.loop-next-smaller
loop-next-smaller c =
    let down = c.in-Some.ensures.step in
    omega (arith, down.later, holds-within (slots c.args.self.now.replay) c.args.input.now c.in-Some.next down.holds)
