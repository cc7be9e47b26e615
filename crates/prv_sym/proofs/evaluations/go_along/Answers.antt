use Rattle.std.proofs.Common.{List, map, subst}
use Rattle.std.proofs.lemmas.List.{take_all}
use Rattle.std.proofs.lemmas.Result.{err_from_is_err_and}
use Rattle.prv_run.specs.declared.event.Event.{Event}
use Rattle.prv_sym.specs.Walks.{Walked, Reached, row_of, walked}
use Rattle.prv_sym.proofs.Walking.{reached-names}
use Rattle.prv_sym.proofs.Along.{walked-next, stopped-at}
use Rattle.prv_sym.proofs.evaluations.go_along.Goals as goal

pub loop-event-preserved : goal.loop-event-preserved
loop-event-preserved c = record {
  slots = c.in_ok-go_on.ensures.slots;
  reached = λ first w r.
      subst (λ (v : Walked). Reached first c.go_on.new.pool c.go_on.new.walk v)
      (walked-next (map row_of c.args.rows.now) c.args.events.now c.loop-event.event-index _ _ w c.loop-event-test.true c.row.ensures)
      (c.in_ok-go_on.ensures.reached first _ (c.loop-event.invariant.reached first w r));
}

pub returns-in_err-go_on-clause-names : goal.returns-in_err-go_on-clause-names
returns-in_err-go_on-clause-names c = λ first w r.
    let passed = err_from_is_err_and c.from_residual.result c.from_residual.ensures.1 in
    rw (passed.1, passed.2) (stopped-at (map row_of c.args.rows.now) c.args.events.now c.loop-event.event-index _ _ w first _ _ c.loop-event-test.true c.row.ensures
    (c.in_err-go_on.ensures.names first _ (c.loop-event.invariant.reached first w r)))

pub returns-clause-reached : goal.returns-clause-reached
returns-clause-reached c = λ first w r.
    subst (λ (es : List Event). Reached first c.loop-event.pool c.loop-event.walk (walked (map row_of c.args.rows.now) es w))
    (take_all c.loop-event.event-index c.args.events.now c.loop-event-test.false) (c.loop-event.invariant.reached first w r)

pub returns-clause-names : goal.returns-clause-names
returns-clause-names c = λ first w r.
    let reached : Reached first c.loop-event.pool c.loop-event.walk (walked (map row_of c.args.rows.now) c.args.events.now w) =
    subst (λ (es : List Event). Reached first c.loop-event.pool c.loop-event.walk (walked (map row_of c.args.rows.now) es w))
    (take_all c.loop-event.event-index c.args.events.now c.loop-event-test.false) (c.loop-event.invariant.reached first w r) in
    reached-names first _ _ _ _ reached
