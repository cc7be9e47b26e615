use Rattle.std.proofs.Common.{None, refl}
use Rattle.std.specs.Arc.{arc_value}
use Rattle.prv_part.specs.declared.shape.Shape.TheVariants as s
use Rattle.prv_record.specs.declared.raw.RawOther.TheVariants as o
use Rattle.prv_record.specs.declared.raw.Proof.TheVariants as p
use Rattle.prv_settle.specs.Settlings.{raw_of}
use Rattle.prv_settle.specs.declared.answer.Answer.TheVariants.{Held, Refuted, Undecided}
use Rattle.prv_settle.proofs.Stepping.{answered, found-settling, empty-settled, stuck-settled, may-settle, settling}
use Rattle.prv_settle.proofs.settling.settle_task.Goals as goal

pub settle_member-requires : goal.settle_member-requires
settle_member-requires c =
    let task = c.args.task.now in
    let said = answered (arc_value task.pair.now).before.params task.options.lines task.region.now _ (Held c.in-Held.member) c.in-Held.is c.in_ok-member.ensures in
    record { input = said.shown.0; inside = said.shown.1 }

pub seal_only-requires-clause-grounds : goal.seal_only-requires-clause-grounds
seal_only-requires-clause-grounds c =
    let task = c.args.task.now in
    let said = answered (arc_value task.pair.now).before.params task.options.lines task.region.now _ (Refuted c.in-Refuted.log) c.in-Refuted.is c.in_ok-member.ensures in
    may-settle task s.Empty None o.None (p.Log c.in-Refuted.log) (empty-settled (arc_value task.pair.now) task.region.now task.entry task.options.lines c.in-Refuted.log said)

pub seal_only-requires-clause-parts : goal.seal_only-requires-clause-parts
seal_only-requires-clause-parts c = refl

pub seal_only-requires-in-Undecided-clause-grounds : goal.seal_only-requires-in-Undecided-clause-grounds
seal_only-requires-in-Undecided-clause-grounds c =
    let task = c.args.task.now in
    let why = c.in-Undecided.reason in
    let proof = c.in-Undecided.proof in
    let said = answered (arc_value task.pair.now).before.params task.options.lines task.region.now _ (Undecided why proof) c.in-Undecided.is c.in_ok-member.ensures in
    may-settle task s.Stuck None (o.Reason why) proof (stuck-settled (arc_value task.pair.now) task.region.now task.entry task.options.lines why proof said)

pub seal_only-requires-in-Undecided-clause-parts : goal.seal_only-requires-in-Undecided-clause-parts
seal_only-requires-in-Undecided-clause-parts c = refl

pub returns-in_ok-settled-in-Held : goal.returns-in_ok-settled-in-Held
returns-in_ok-settled-in-Held c =
    let task = c.args.task.now in
    let said = answered (arc_value task.pair.now).before.params task.options.lines task.region.now _ (Held c.in-Held.member) c.in-Held.is c.in_ok-member.ensures in
    found-settling task c.in-Held.member c.in_ok-settled-in-Held.settled said c.in_ok-settled-in-Held.ensures

pub returns-in_ok-settled-in-Refuted : goal.returns-in_ok-settled-in-Refuted
returns-in_ok-settled-in-Refuted c =
    let task = c.args.task.now in
    let said = answered (arc_value task.pair.now).before.params task.options.lines task.region.now _ (Refuted c.in-Refuted.log) c.in-Refuted.is c.in_ok-member.ensures in
    settling task (raw_of task.entry s.Empty None o.None (p.Log c.in-Refuted.log)) _ (empty-settled (arc_value task.pair.now) task.region.now task.entry task.options.lines c.in-Refuted.log said) c.in_ok-settled-in-Refuted.ensures

pub returns-in_ok-settled-in-Undecided : goal.returns-in_ok-settled-in-Undecided
returns-in_ok-settled-in-Undecided c =
    let task = c.args.task.now in
    let why = c.in-Undecided.reason in
    let proof = c.in-Undecided.proof in
    let said = answered (arc_value task.pair.now).before.params task.options.lines task.region.now _ (Undecided why proof) c.in-Undecided.is c.in_ok-member.ensures in
    settling task (raw_of task.entry s.Stuck None (o.Reason why) proof) _ (stuck-settled (arc_value task.pair.now) task.region.now task.entry task.options.lines why proof said) c.in_ok-settled-in-Undecided.ensures
