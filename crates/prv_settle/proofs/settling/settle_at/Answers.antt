use Rattle.std.proofs.Common.{List, ℤ, ap, ◌∙◌, subst, Some}
use Rattle.std.specs.Arc.{arc_value}
use Rattle.prv_settle.specs.Settlings.{IsSettledAt}
use Rattle.prv_settle.proofs.Budgeting.{raw-entry-at, raw-member, has-budget-at, may-replace}
use Rattle.prv_settle.proofs.settling.settle_at.Goals as goal

pub returns-clause-settled : goal.returns-clause-settled
returns-clause-settled c = let Q : List ℤ → Type 0 = λ t. IsSettledAt (arc_value c.args.pair.now) c.args.region.now c.args.entry c.args.options.lines t c.in_ok-settled.settled.raw in subst Q c.in_ok-member.ensures c.in_ok-settled.ensures.settled

pub returns-clause-entry : goal.returns-clause-entry
returns-clause-entry c = raw-entry-at (arc_value c.args.pair.now) c.args.region.now c.args.entry c.args.options.lines c.in_ok-member.member c.in_ok-settled.settled.raw c.in_ok-settled.ensures.settled

pub returns-clause-member : goal.returns-clause-member
returns-clause-member c =
    raw-member (arc_value c.args.pair.now) c.args.region.now c.args.entry c.args.options.lines c.in_ok-member.member c.in_ok-settled.settled.raw c.in_ok-settled.ensures.settled
    ∙ ap (λ (t : List ℤ). Some t) c.in_ok-member.ensures

pub returns-clause-budget : goal.returns-clause-budget
returns-clause-budget c =
    let found = c.in_ok-settled.ensures in
    has-budget-at (arc_value c.args.pair.now) c.args.region.now c.args.entry c.args.options.lines c.in_ok-member.member c.in_ok-settled.settled.finding c.in_ok-settled.settled.raw found.settled found.finding

pub returns-clause-open_entry : goal.returns-clause-open_entry
returns-clause-open_entry c =
    let found = c.in_ok-settled.ensures in
    λ kind is. may-replace c.args.options.lines c.in_ok-settled.settled.finding kind
    (has-budget-at (arc_value c.args.pair.now) c.args.region.now c.args.entry c.args.options.lines c.in_ok-member.member c.in_ok-settled.settled.finding c.in_ok-settled.settled.raw found.settled found.finding) is
