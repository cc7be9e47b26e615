use Rattle.std.proofs.Common.{length, sym, ap, ◌∙◌}
use Rattle.std.specs.Arc.{arc_value}
use Rattle.prv_pool.specs.Tables.{Table}
use Rattle.prv_settle.proofs.Rooms.{some-few}
use Rattle.prv_settle.proofs.Stepping.{none-found, some-found, wide-settled, literals-settled, many-literals}
use Rattle.prv_settle.proofs.settling.settle_member.Goals as goal

pub stuck_at-requires-clause-settled : goal.stuck_at-requires-clause-settled
stuck_at-requires-clause-settled c =
    let task = c.args.task.now in
    let pair = arc_value task.pair.now in
    wide-settled pair task.region.now task.entry task.options.lines c.args.member (none-found pair task.region.now c.args.member _ _ c.in-None.is c.in_ok-run_both.ensures.runs)

pub stuck_at-requires-then-has_many_literals-clause-settled : goal.stuck_at-requires-then-has_many_literals-clause-settled
stuck_at-requires-then-has_many_literals-clause-settled c =
    let task = c.args.task.now in
    let pair = arc_value task.pair.now in
    let found = some-found pair task.region.now c.args.member _ _ c.in-Some.runs c.in-Some.is c.in_ok-run_both.ensures.runs in
    literals-settled pair task.region.now task.entry task.options.lines c.args.member found.0
    (sym (many-literals pair task.region.now c.args.member _ c.in-Some.runs found.1) ∙ sym c.has_many_literals.ensures ∙ c.if-has_many_literals.true)

pub settle_runs-requires-clause-runs : goal.settle_runs-requires-clause-runs
settle_runs-requires-clause-runs c =
    let task = c.args.task.now in
    (some-found (arc_value task.pair.now) task.region.now c.args.member _ _ c.in-Some.runs c.in-Some.is c.in_ok-run_both.ensures.runs).1

pub settle_runs-requires-clause-narrow : goal.settle_runs-requires-clause-narrow
settle_runs-requires-clause-narrow c =
    let task = c.args.task.now in
    (some-found (arc_value task.pair.now) task.region.now c.args.member _ _ c.in-Some.runs c.in-Some.is c.in_ok-run_both.ensures.runs).0

pub settle_runs-requires-clause-literals : goal.settle_runs-requires-clause-literals
settle_runs-requires-clause-literals c =
    let task = c.args.task.now in
    let pair = arc_value task.pair.now in
    let found = some-found pair task.region.now c.args.member _ _ c.in-Some.runs c.in-Some.is c.in_ok-run_both.ensures.runs in
    sym (many-literals pair task.region.now c.args.member _ c.in-Some.runs found.1) ∙ sym c.has_many_literals.ensures ∙ c.if-has_many_literals.false

pub settle_runs-requires-clause-few : goal.settle_runs-requires-clause-few
settle_runs-requires-clause-few c = some-few _ c.in-Some.runs (length c.run_both.new.pool.terms) c.in-Some.is c.in_ok-run_both.ensures.few

pub settle_runs-requires-clause-limit : goal.settle_runs-requires-clause-limit
settle_runs-requires-clause-limit c = c.in_ok-run_both.ensures.limit ∙ ap (λ (t : Table). t.max_nodes) c.new-pool.ensures
