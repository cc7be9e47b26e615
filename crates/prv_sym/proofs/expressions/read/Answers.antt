use Rattle.std.proofs.Common.{[], ◌∷◌}
use Rattle.std.proofs.lemmas.Result.{err_from_is_err_and}
use Rattle.prv_sym.proofs.Naming.{names-one, names-then, names-stop, refused, answered, grown, stands-on}
use Rattle.prv_sym.proofs.expressions.read.Goals as goal

pub returns-in_err-value-clause-names : goal.returns-in_err-value-clause-names
returns-in_err-value-clause-names c =
    let passed = err_from_is_err_and c.from_residual.result c.from_residual.ensures.1 in
    rw (passed.1, passed.2) (names-stop (_ ∷ []) _ _ _ _ c.in_err-value.ensures.names)

pub returns-in_err-safe-clause-names : goal.returns-in_err-safe-clause-names
returns-in_err-safe-clause-names c =
    let passed = err_from_is_err_and c.from_residual-in_err-safe.result c.from_residual-in_err-safe.ensures.1 in
    rw (passed.1, passed.2) (refused _ _ _ _ (names-then (_ ∷ []) (_ ∷ []) _ _ _ _ _ c.in_ok-value.ensures.names (names-one _ _ _ _ c.in_err-safe.ensures)))

pub returns-clause-value : goal.returns-clause-value
returns-clause-value c = stands-on _ _ _ _ (grown _ _ _ _ c.in_ok-safe.ensures) c.in_ok-value.ensures.stands

pub returns-clause-names : goal.returns-clause-names
returns-clause-names c = answered _ _ _ _ _ (names-then (_ ∷ []) (_ ∷ []) _ _ _ _ _ c.in_ok-value.ensures.names (names-one _ _ _ _ c.in_ok-safe.ensures))
