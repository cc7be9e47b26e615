use Rattle.std.proofs.Common.{List, sym, subst}
use Rattle.std.proofs.lemmas.Result.{err_from_is_err_and}
use Rattle.prv_sym.specs.declared.evaluations.Walk.{Walk}
use Rattle.prv_sym.specs.declared.symbol_nodes.Slot.{Slot}
use Rattle.prv_sym.specs.Calls.{StandsFor, AreSlots, terms_of}
use Rattle.prv_sym.specs.Symbols.{symbol}
use Rattle.prv_sym.specs.Walks.{Reached, seen, with_own}
use Rattle.prv_sym.proofs.Naming.{stands-in}
use Rattle.prv_sym.proofs.Slots.{slots-kept}
use Rattle.prv_sym.proofs.Walking.{slots-by, reached-on, reached-names, refused-on, named-on}
use Rattle.prv_sym.proofs.evaluations.evaluate.Goals as goal

pub returns-in_err-nodes-clause-names : goal.returns-in_err-nodes-clause-names
returns-in_err-nodes-clause-names c = λ first w r.
    let passed = err_from_is_err_and c.from_residual.result c.from_residual.ensures.1 in
    rw (passed.1, passed.2) (refused-on first _ _ _ w (seen c.args.own) c.args.safe _ r (rw c.as_slice.ensures at c.in_err-nodes.ensures.names))

pub returns-in_err-push-clause-names : goal.returns-in_err-push-clause-names
returns-in_err-push-clause-names c = λ first w r.
    let passed = err_from_is_err_and c.from_residual-in_err-push.result c.from_residual-in_err-push.ensures.1 in
    rw (passed.1, passed.2) (named-on first _ _ _ w (seen c.args.own) c.args.safe _ r (rw c.as_slice.ensures at c.in_ok-nodes.ensures.names))

pub returns-in_err-push-2-clause-names : goal.returns-in_err-push-2-clause-names
returns-in_err-push-2-clause-names c = λ first w r.
    let passed = err_from_is_err_and c.from_residual-in_err-push-2.result c.from_residual-in_err-push-2.ensures.1 in
    rw (passed.1, passed.2) (named-on first _ _ _ w (seen c.args.own) c.args.safe _ r (rw c.as_slice.ensures at c.in_ok-nodes.ensures.names))

pub returns-clause-slots : goal.returns-clause-slots
returns-clause-slots c =
    let nodes = c.in_ok-nodes in
    let given : StandsFor c.symbol.new.pool.terms nodes.nodes.value (symbol c.args.own.expr.now (terms_of c.args.pool.now.terms c.args.walk.now.slots)).term = rw c.as_slice.ensures at nodes.ensures.value in
    let kept = slots-kept c.args.pool.now.terms c.symbol.new.pool.terms nodes.ensures.names.kept c.args.walk.now.slots c.requires in
    subst (λ (xs : List Slot). AreSlots c.symbol.new.pool.terms xs) (sym c.assign.ensures)
    (slots-by c.symbol.new.pool.terms nodes.nodes.value (stands-in _ _ _ given) c.args.own.sets c.args.safe c.args.walk.now.slots kept)

pub returns-clause-reached : goal.returns-clause-reached
returns-clause-reached c = λ first w r.
    reached-on first _ _ _ _ w (seen c.args.own) c.args.safe c.in_ok-nodes.nodes r (rw c.as_slice.ensures at c.in_ok-nodes.ensures.value) (rw c.as_slice.ensures at c.in_ok-nodes.ensures.safe)
    (rw c.as_slice.ensures at c.in_ok-nodes.ensures.names) c.in_ok-push.ensures.ok c.in_ok-push-2.ensures.ok c.assign.ensures

pub returns-clause-names : goal.returns-clause-names
returns-clause-names c = λ first w r.
    let next : Walk = record { slots = c.assign.new.slots; values = c.push.new.self; safes = c.push-2.new.self } in
    let reached : Reached first c.symbol.new.pool next (with_own (seen c.args.own) c.args.safe w) =
    reached-on first _ _ _ next w (seen c.args.own) c.args.safe c.in_ok-nodes.nodes r (rw c.as_slice.ensures at c.in_ok-nodes.ensures.value) (rw c.as_slice.ensures at c.in_ok-nodes.ensures.safe)
    (rw c.as_slice.ensures at c.in_ok-nodes.ensures.names) c.in_ok-push.ensures.ok c.in_ok-push-2.ensures.ok c.assign.ensures in
    reached-names first _ next _ _ reached
