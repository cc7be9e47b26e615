use Rattle.std.proofs.Common.{sym, ◌∙◌}
use Rattle.std.specs.Arc.{arc_value}
use Rattle.prv_settle.proofs.Stepping.{beyond-settled, runs-beyond, runs-agree}
use Rattle.prv_settle.proofs.Halving.{equality-in, equality-stands}
use Rattle.prv_settle.proofs.Rooms.{cut-room, room-less}
use Rattle.prv_settle.proofs.settling.settle_runs.Goals as goal

pub cut_of-requires : goal.cut_of-requires
cut_of-requires c =
    let task = c.args.task.now in
    (arc_value task.pair.now, task.region.now, c.args.member, c.requires.runs)

pub beyond-requires-clause-settled : goal.beyond-requires-clause-settled
beyond-requires-clause-settled c =
    let task = c.args.task.now in
    let pair = arc_value task.pair.now in
    beyond-settled pair task.region.now task.entry task.options.lines c.args.member c.requires.narrow c.requires.literals
    (sym (runs-beyond pair task.region.now c.args.member c.args.pool c.args.runs.now c.requires.runs) ∙ sym c.is_beyond.ensures ∙ c.if-is_beyond.true)

pub beyond-requires-clause-cut : goal.beyond-requires-clause-cut
beyond-requires-clause-cut c =
    let task = c.args.task.now in
    c.in_ok-cut.ensures.cut (arc_value task.pair.now) task.region.now c.args.member c.requires.runs

pub beyond-requires-clause-room : goal.beyond-requires-clause-room
beyond-requires-clause-room c =
    let task = c.args.task.now in
    let pair = arc_value task.pair.now in
    room-less 4 c.in_ok-cut.cut
    (cut-room pair task.region.now c.args.member c.args.pool c.in_ok-cut.cut (c.in_ok-cut.ensures.cut pair task.region.now c.args.member c.requires.runs) c.requires.literals c.in_ok-cut.ensures.same c.requires.few c.requires.limit)

pub halve-requires-clause-equality : goal.halve-requires-clause-equality
halve-requires-clause-equality c =
    let task = c.args.task.now in
    equality-in (arc_value task.pair.now) task.region.now c.args.member c.args.pool _ c.args.runs.now c.requires.runs c.in_ok-cut.ensures.same

pub halve-requires-clause-room : goal.halve-requires-clause-room
halve-requires-clause-room c =
    let task = c.args.task.now in
    let pair = arc_value task.pair.now in
    cut-room pair task.region.now c.args.member c.args.pool c.in_ok-cut.cut (c.in_ok-cut.ensures.cut pair task.region.now c.args.member c.requires.runs) c.requires.literals c.in_ok-cut.ensures.same c.requires.few c.requires.limit

pub settle_halves-requires-clause-halves : goal.settle_halves-requires-clause-halves
settle_halves-requires-clause-halves c =
    let task = c.args.task.now in
    let pair = arc_value task.pair.now in
    c.in_ok-halves.ensures pair task.region.now c.args.member (c.in_ok-cut.ensures.cut pair task.region.now c.args.member c.requires.runs) (c.agree.ensures ∙ runs-agree pair task.region.now c.args.member c.args.pool c.args.runs.now c.requires.runs)
    (equality-stands pair task.region.now c.args.member c.args.pool _ c.args.runs.now c.requires.runs c.in_ok-cut.ensures.same)

pub settle_halves-requires-clause-short : goal.settle_halves-requires-clause-short
settle_halves-requires-clause-short c =
    let task = c.args.task.now in
    sym (runs-beyond (arc_value task.pair.now) task.region.now c.args.member c.args.pool c.args.runs.now c.requires.runs) ∙ sym c.is_beyond.ensures ∙ c.if-is_beyond.false
