use Rattle.std.proofs.Common.{Ok, sym}
use Rattle.std.proofs.lemmas.Result.{err_from_is_err_and}
use Rattle.prv_sym.specs.Named.{safety_named}
use Rattle.prv_sym.specs.Symbols.{class_safe}
use Rattle.prv_sym.proofs.Naming.{names-as, names-then, names-stop, refused, answered, stands-on, stands-as, symbol-kept}
use Rattle.prv_sym.proofs.operators.binary.Goals as goal

pub returns-in_err-value-clause-names : goal.returns-in_err-value-clause-names
returns-in_err-value-clause-names c =
    let passed = err_from_is_err_and c.from_residual.result c.from_residual.ensures.1 in
    rw (passed.1, passed.2, sym c.classify-class.ensures) (names-stop _ _ _ _ _ c.in_err-value.ensures.names)

pub returns-in_err-safe-clause-names : goal.returns-in_err-safe-clause-names
returns-in_err-safe-clause-names c =
    let passed = err_from_is_err_and c.from_residual-in_err-safe.result c.from_residual-in_err-safe.ensures.1 in
    let k = c.in_ok-value.ensures.names.kept in
    let x = symbol-kept _ _ c.args.x k c.requires.first in
    let y = symbol-kept _ _ c.args.y k c.requires.second in
    rw (passed.1, passed.2, sym c.classify-class.ensures) (names-then _ _ _ _ _ _ _ c.in_ok-value.ensures.names
    (refused _ _ _ _ (names-as _ _ _ _ _ (λ i. safety_named c.classify-class.result (x i) (y i)) c.in_err-safe.ensures.names)))

pub returns-clause-value : goal.returns-clause-value
returns-clause-value c = rw (sym c.classify-class.ensures) (stands-on _ _ _ _ c.in_ok-safe.ensures.names.kept c.in_ok-value.ensures.stands)

pub returns-clause-safe : goal.returns-clause-safe
returns-clause-safe c =
    let k = c.in_ok-value.ensures.names.kept in
    let x = symbol-kept _ _ c.args.x k c.requires.first in
    let y = symbol-kept _ _ c.args.y k c.requires.second in
    rw (sym c.classify-class.ensures) (stands-as _ _ _ (Ok c.in_ok-safe.safe) (λ i. class_safe c.classify-class.result (x i) (y i)) c.in_ok-safe.ensures.stands)

pub returns-clause-names : goal.returns-clause-names
returns-clause-names c =
    let k = c.in_ok-value.ensures.names.kept in
    let x = symbol-kept _ _ c.args.x k c.requires.first in
    let y = symbol-kept _ _ c.args.y k c.requires.second in
    rw (sym c.classify-class.ensures) (names-then _ _ _ _ _ _ _ c.in_ok-value.ensures.names
    (answered _ _ _ _ _ (names-as _ _ _ _ _ (λ i. safety_named c.classify-class.result (x i) (y i)) c.in_ok-safe.ensures.names)))
