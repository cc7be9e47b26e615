use Rattle.prv_explore.proofs.UnderWay.{all-supported, all-with_budget}
use Rattle.prv_explore.proofs.exploring.explore.Goals as goal

pub returns-clause-supported : goal.returns-clause-supported
returns-clause-supported g c =
    all-supported c.in_ok-board.board.replay.caps c.in_ok-board.board.replay.pair c.args.plan c.settle_all-settled.new.board.replay c.in_ok-ended.ended c.in_ok-ended.ensures.explored

pub returns-clause-lines : goal.returns-clause-lines
returns-clause-lines g c =
    all-with_budget c.in_ok-board.board.replay.caps c.in_ok-board.board.replay.pair c.args.plan c.settle_all-settled.new.board.replay c.in_ok-ended.ended c.in_ok-ended.ensures.explored
