use Rattle.std.proofs.Common.{◌∙◌}
use Rattle.prv_board.specs.Kept.{replay_of}
use Rattle.prv_board.proofs.ParentLaws.{parent-of-origin}
use Rattle.prv_board.proofs.board.Board.parent.Goals as goal

pub returns : goal.returns
returns c =
    let i = c.self.inside in
    rw (← c.self.view_is)
    (rw (c.as_slice.ensures.value, c.as_slice-2.ensures.value) at c.parent_in.ensures
    ∙ parent-of-origin (replay_of i).history i.origins.items c.args.number c.self.invariant.tree.origins)
