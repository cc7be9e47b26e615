use Rattle.std.proofs.Common.{◌≤◌}
use Rattle.prv_explore.proofs.UnderWay.{IsUnderWay}
use Rattle.prv_explore.proofs.exploring.settle_all.Given as goal

abbrev pub invariant-loop-made : goal.invariant-loop-made
invariant-loop-made g l = record {
  under : IsUnderWay l.fn.board.replay.caps l.fn.board.replay.pair l.board.replay l.plan.lines l.first l.made;
  within : l.made ≤ l.plan.settlements;
}
