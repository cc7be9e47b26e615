use Rattle.std.specs.Arc.{arc_value}
use Rattle.prv_settle.proofs.Budgeting.{raw-entry, has-budget, may-replace}
use Rattle.prv_settle.proofs.settling.settle.Goals as goal

pub returns-clause-entry : goal.returns-clause-entry
returns-clause-entry c = raw-entry (arc_value c.args.pair.now) c.args.region.now c.args.entry c.args.options.lines c.in_ok-settled.settled.raw c.in_ok-settled.ensures.settled

pub returns-clause-budget : goal.returns-clause-budget
returns-clause-budget c =
    let found = c.in_ok-settled.ensures in
    has-budget (arc_value c.args.pair.now) c.args.region.now c.args.entry c.args.options.lines c.in_ok-settled.settled.finding c.in_ok-settled.settled.raw found.settled found.finding

pub returns-clause-open_entry : goal.returns-clause-open_entry
returns-clause-open_entry c =
    let found = c.in_ok-settled.ensures in
    λ kind is. may-replace c.args.options.lines c.in_ok-settled.settled.finding kind
    (has-budget (arc_value c.args.pair.now) c.args.region.now c.args.entry c.args.options.lines c.in_ok-settled.settled.finding c.in_ok-settled.settled.raw found.settled found.finding) is
