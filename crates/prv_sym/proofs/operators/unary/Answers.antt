use Rattle.std.proofs.lemmas.Result.{err_from_is_err_and}
use Rattle.prv_sym.proofs.Naming.{refused, answered, stands-on, there}
use Rattle.prv_sym.proofs.operators.unary.Goals as goal

pub returns-in_err-value-clause-names : goal.returns-in_err-value-clause-names
returns-in_err-value-clause-names c =
    let passed = err_from_is_err_and c.from_residual.result c.from_residual.ensures.1 in
    rw (passed.1, passed.2) (refused _ _ _ _ c.in_err-value.ensures.names)

pub returns-clause-safe : goal.returns-clause-safe
returns-clause-safe c = stands-on _ _ _ _ c.in_ok-value.ensures.names.kept (there _ _ c.requires.1)

pub returns-clause-names : goal.returns-clause-names
returns-clause-names c = answered _ _ _ _ _ c.in_ok-value.ensures.names
