use Rattle.std.proofs.Common.{List, ◌∷◌, [], ◌++◌, sym, ap, ◌∙◌, subst}
use Rattle.std.specs.Prelude.{filter}
use Rattle.std.proofs.lemmas.Result.{err_from_is_err_and}
use Rattle.prv_model.specs.declared.term.Term.{Term}
use Rattle.prv_sym.specs.Calls.{AllStand, symbol_at}
use Rattle.prv_sym.proofs.Along.{unnamed}
use Rattle.prv_sym.proofs.Naming.{answered, grown, made-at, made-in, names-as, names-one, refused}
use Rattle.prv_general.specs.Slices.{says_something}
use Rattle.prv_general.proofs.Making.{fault-conditions, fault-names, then-refused}
use Rattle.prv_general.proofs.Standing.{all-on}
use Rattle.prv_general.proofs.literals.add_conditions.Goals as goal

pub returns-in_err-add-clause-names : goal.returns-in_err-add-clause-names
returns-in_err-add-clause-names c =
    let passed = err_from_is_err_and c.from_residual.result c.from_residual.ensures.1 in
    rw (passed.1, passed.2) (unnamed _ _)

pub returns-in_err-faults-clause-names : goal.returns-in_err-faults-clause-names
returns-in_err-faults-clause-names c =
    let passed = err_from_is_err_and c.from_residual-in_err-faults.result c.from_residual-in_err-faults.ensures.1 in
    rw (passed.1, passed.2)
    (names-as _ _ _ _ _ (sym (fault-names c.args.event (symbol_at c.args.pool.now.terms c.args.nodes) c.if-event.false)) (refused _ _ _ _ (names-one _ _ _ _ c.in_err-faults.ensures)))

pub add-requires-else-event : goal.add-requires-else-event
add-requires-else-event c = made-in _ _ _ _ c.in_ok-faults.ensures

pub returns-in_err-add-2-clause-names : goal.returns-in_err-add-2-clause-names
returns-in_err-add-2-clause-names c =
    let passed = err_from_is_err_and c.from_residual-in_err-add-2.result c.from_residual-in_err-add-2.ensures.1 in
    rw (passed.1, passed.2)
    (names-as _ _ _ _ _ (sym (fault-names c.args.event (symbol_at c.args.pool.now.terms c.args.nodes) c.if-event.false)) (then-refused _ _ _ _ (names-one _ _ _ _ c.in_ok-faults.ensures)))

pub returns-in_ok-add-2-clause-stand : goal.returns-in_ok-add-2-clause-stand
returns-in_ok-add-2-clause-stand c = λ ts s.
    let m = c.in_ok-faults.ensures in
    let terms = c.not.new.self.terms in
    subst (λ (us : List Term). AllStand terms c.add-else-event.new.literals (filter says_something (ts ++ us)))
    (ap (λ (u : Term). u ∷ []) (made-at _ _ _ _ m) ∙ sym (fault-conditions c.args.event (symbol_at c.args.pool.now.terms c.args.nodes) c.if-event.false))
    (c.in_ok-add-2.ensures ts (all-on c.args.pool.now.terms terms (grown _ _ _ _ m) c.args.literals.now _ s))

pub returns-in_ok-add-2-clause-names : goal.returns-in_ok-add-2-clause-names
returns-in_ok-add-2-clause-names c =
    names-as _ _ _ _ _ (sym (fault-names c.args.event (symbol_at c.args.pool.now.terms c.args.nodes) c.if-event.false)) (answered _ _ _ _ _ (names-one _ _ _ _ c.in_ok-faults.ensures))
