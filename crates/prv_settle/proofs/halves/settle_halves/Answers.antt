use Rattle.std.proofs.Common.{true, false, All, subst, sym}
use Rattle.std.specs.Arc.{arc_value}
use Rattle.prv_model.specs.Terms.{IsTerm}
use Rattle.prv_model.specs.declared.program.Pair.{Pair}
use Rattle.prv_settle.specs.declared.answer.Answer.TheVariants.{Held, Refuted, Undecided}
use Rattle.prv_settle.specs.Grounds.{other_part}
use Rattle.prv_settle.specs.Making.{AreNodes}
use Rattle.prv_sym.proofs.Naming.{stands-in}
use Rattle.prv_settle.proofs.Stepping.{as-answer, few-words, granted-settled, open-settled}
use Rattle.prv_settle.proofs.Halving.{granted-by, other-known, other-few}
use Rattle.prv_settle.proofs.halves.settle_halves.Goals as goal

pub is_granted-requires-clause-partition : goal.is_granted-requires-clause-partition
is_granted-requires-clause-partition c = subst (AreNodes c.args.halves.cut.pool.terms) (sym c.as_slice.ensures.value) c.requires.halves.cut.nodes

pub is_granted-requires-clause-decided : goal.is_granted-requires-clause-decided
is_granted-requires-clause-decided c = stands-in _ _ _ c.requires.halves.first

pub whole-requires-clause-settled : goal.whole-requires-clause-settled
whole-requires-clause-settled c =
    let task = c.args.task.now in
    let pair = arc_value task.pair.now in
    granted-settled pair task.region.now task.entry task.options.lines c.args.member c.requires.narrow c.requires.literals c.requires.short
    (granted-by pair task.region.now c.args.member c.args.halves _ _ true c.requires.halves c.as_slice.ensures.value c.is_granted.ensures c.if-is_granted.true)

pub search_second-requires-clause-words : goal.search_second-requires-clause-words
search_second-requires-clause-words c = few-words c.deref.result.now

pub search_second-requires-clause-halves : goal.search_second-requires-clause-halves
search_second-requires-clause-halves c =
    let task = c.args.task.now in
    let pair = arc_value task.pair.now in
    let Q : Pair → Type 0 = λ q. All (IsTerm q.before.params) (other_part pair task.region.now c.args.member) in
    (pair, task.region.now, c.args.member, c.requires.halves, subst Q (sym c.deref.ensures) (other-known pair task.region.now c.args.member task.kept.known), other-few pair task.region.now c.args.member task.kept.few c.requires.literals)

pub whole-requires-in-Refuted-clause-settled : goal.whole-requires-in-Refuted-clause-settled
whole-requires-in-Refuted-clause-settled c =
    let task = c.args.task.now in
    let pair = arc_value task.pair.now in
    let undecided = (granted-by pair task.region.now c.args.member c.args.halves _ _ false c.requires.halves c.as_slice.ensures.value c.is_granted.ensures c.if-is_granted.false) in
    open-settled pair task.region.now task.entry task.options.lines c.args.member c.requires.narrow c.requires.literals c.requires.short undecided (Refuted c.in-Refuted.log)
    (as-answer c.deref.result.now pair task.options.lines (other_part pair task.region.now c.args.member) _ (Refuted c.in-Refuted.log) c.deref.ensures c.in-Refuted.is (c.in_ok-log.ensures pair task.region.now c.args.member c.requires.halves))

pub split-requires-clause-settled : goal.split-requires-clause-settled
split-requires-clause-settled c =
    let task = c.args.task.now in
    let pair = arc_value task.pair.now in
    let undecided = (granted-by pair task.region.now c.args.member c.args.halves _ _ false c.requires.halves c.as_slice.ensures.value c.is_granted.ensures c.if-is_granted.false) in
    open-settled pair task.region.now task.entry task.options.lines c.args.member c.requires.narrow c.requires.literals c.requires.short undecided (Held c.in-Held.input)
    (as-answer c.deref.result.now pair task.options.lines (other_part pair task.region.now c.args.member) _ (Held c.in-Held.input) c.deref.ensures c.in-Held.is (c.in_ok-log.ensures pair task.region.now c.args.member c.requires.halves))

pub split-requires-clause-shown : goal.split-requires-clause-shown
split-requires-clause-shown c = λ e. cc e

pub split-requires-in-Undecided-clause-settled : goal.split-requires-in-Undecided-clause-settled
split-requires-in-Undecided-clause-settled c =
    let task = c.args.task.now in
    let pair = arc_value task.pair.now in
    let undecided = (granted-by pair task.region.now c.args.member c.args.halves _ _ false c.requires.halves c.as_slice.ensures.value c.is_granted.ensures c.if-is_granted.false) in
    open-settled pair task.region.now task.entry task.options.lines c.args.member c.requires.narrow c.requires.literals c.requires.short undecided (Undecided c.in-Undecided.reason c.in-Undecided.proof)
    (as-answer c.deref.result.now pair task.options.lines (other_part pair task.region.now c.args.member) _ (Undecided c.in-Undecided.reason c.in-Undecided.proof) c.deref.ensures c.in-Undecided.is (c.in_ok-log.ensures pair task.region.now c.args.member c.requires.halves))

pub split-requires-in-Undecided-clause-shown : goal.split-requires-in-Undecided-clause-shown
split-requires-in-Undecided-clause-shown c = λ e. cc e
