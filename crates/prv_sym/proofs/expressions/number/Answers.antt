use Rattle.std.proofs.Common.{[], ap}
use Rattle.std.proofs.lemmas.Result.{err_from_is_err_and}
use Rattle.std.proofs.lemmas.Int.{to_z-of_z}
use Rattle.std.specs.Int.{w32}
use Rattle.prv_model.specs.declared.term.Term.TheVariants.{Num}
use Rattle.prv_sym.proofs.Naming.{makes-as, answered, one-refused, two-named, two-refused, grown, stands-on}
use Rattle.prv_sym.proofs.expressions.number.Goals as goal

pub returns-in_err-value-clause-names : goal.returns-in_err-value-clause-names
returns-in_err-value-clause-names c =
    let passed = err_from_is_err_and c.from_residual.result c.from_residual.ensures.1 in
    rw (passed.1, passed.2) (one-refused _ _ _ _ _ (makes-as _ _ _ _ _ (ap Num (to_z-of_z w32 c.args.n c.ranges.n)) c.in_err-value.ensures))

pub returns-in_err-safe-clause-names : goal.returns-in_err-safe-clause-names
returns-in_err-safe-clause-names c =
    let passed = err_from_is_err_and c.from_residual-in_err-safe.result c.from_residual-in_err-safe.ensures.1 in
    rw (passed.1, passed.2) (two-refused _ _ [] _ _ _ _ _ (makes-as _ _ _ _ _ (ap Num (to_z-of_z w32 c.args.n c.ranges.n)) c.in_ok-value.ensures) c.in_err-safe.ensures)

pub returns-clause-value : goal.returns-clause-value
returns-clause-value c = stands-on _ _ _ _ (grown _ _ _ _ c.in_ok-safe.ensures) (makes-as _ _ _ _ _ (ap Num (to_z-of_z w32 c.args.n c.ranges.n)) c.in_ok-value.ensures).stands

pub returns-clause-names : goal.returns-clause-names
returns-clause-names c = answered _ _ _ _ _ (two-named _ _ _ _ _ _ _ (makes-as _ _ _ _ _ (ap Num (to_z-of_z w32 c.args.n c.ranges.n)) c.in_ok-value.ensures) c.in_ok-safe.ensures)
