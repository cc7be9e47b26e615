use Rattle.std.proofs.Common.{arith, subst}
use Rattle.prv_explore.specs.Turns.{Turned}
use Rattle.prv_explore.specs.declared.turn.Turn.{Turn}
use Rattle.prv_explore.proofs.UnderWay.{under_way-more, explored-full}
use Rattle.prv_explore.proofs.exploring.settle_all.Goals as goal

pub loop-made-preserved : goal.loop-made-preserved
loop-made-preserved g c =
    let b = c.loop-made.board.replay in
    let after = c.settle_least.new.board.replay in
    let lines = c.args.plan.lines in
    let turned = subst (λ (t : Turn). Turned b after lines t) c.in-Made.is c.in_ok-entry.ensures.turned in
    record {
      under = under_way-more c.args.board.now.replay.caps c.args.board.now.replay.pair b after lines c.loop-made.first c.loop-made.made c.in-Made.entry c.loop-made.invariant.under turned;
      within = omega arith;
    }

pub returns-in-Full : goal.returns-in-Full
returns-in-Full g c =
    let b = c.loop-made.board.replay in
    let after = c.settle_least.new.board.replay in
    let full = c.in-Full in
    let turned = subst (λ (t : Turn). Turned b after c.args.plan.lines t) full.is c.in_ok-entry.ensures.turned in
    record {
      explored = explored-full c.args.board.now.replay.caps c.args.board.now.replay.pair c.args.plan b after c.loop-made.first c.loop-made.made full.reached c.loop-made.invariant.under (omega arith) turned;
    }
