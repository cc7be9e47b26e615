use Rattle.std.proofs.Common.{◌∙◌, ap, arith}
use Rattle.std.specs.Arc.{arc_value}
use Rattle.prv_part.specs.declared.part.Part.{Part}
use Rattle.prv_board.specs.Kept.{replay_of}
use Rattle.prv_board.specs.Replays.{BoardView}
use Rattle.prv_board.proofs.KeptLaws.{tree-copy, replay-same}
use Rattle.prv_board.proofs.board.Board.copy.Goals as goal

pub invariant_of-result : goal.invariant_of-result
invariant_of-result c =
    let i = c.self.inside in
    record {
      tree =
          tree-copy (arc_value i.pair) (arc_value c.in_ok-pair.pair) i.whole.region c.in_ok-region.region i.caps (replay_of i).history _ i.whole c.unexplored.result i.origins.items c.in_ok-origins.origins.items i.retired.items c.in_ok-retired.retired.items i.counts i.totals
          c.self.invariant.tree c.in_ok-pair.ensures c.in_ok-region.ensures c.unexplored.ensures (rw c.as_slice.ensures.value at c.in_ok-settlements.ensures) (c.in_ok-origins.ensures.items ∙ c.as_slice-2.ensures.value) (c.in_ok-retired.ensures.items ∙ c.as_slice-3.ensures.value);
      room_in_origins = omega arith;
      room_in_retired = omega arith;
      room_for_one = λ some. absurd (omega arith);
    }

pub returns : goal.returns
returns c =
    let i = c.self.inside in
    replay-same (arc_value i.pair) (arc_value c.in_ok-pair.pair) i.whole.region c.unexplored.result.region i.caps (replay_of i).history _ c.in_ok-pair.ensures (ap (λ (p : Part). p.region) c.unexplored.ensures ∙ c.in_ok-region.ensures) (rw c.as_slice.ensures.value at c.in_ok-settlements.ensures)
    ∙ ap (λ (v : BoardView). v.replay) c.self.view_is
