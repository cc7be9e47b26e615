use Rattle.std.proofs.Common.{sym, ap, ◌∙◌}
use Rattle.std.proofs.lemmas.Result.{err_from_is_err_and}
use Rattle.prv_pool.specs.Folding.{negation}
use Rattle.prv_sym.proofs.Naming.{made-at, made-in, makes-as, names-as, one-refused, two-named}
use Rattle.prv_general.proofs.Making.{named-zero, named-other, named-twice}
use Rattle.prv_general.proofs.literals.branch_condition.Goals as goal

pub returns-in_err-truth-clause-names : goal.returns-in_err-truth-clause-names
returns-in_err-truth-clause-names c =
    let passed = err_from_is_err_and c.from_residual.result c.from_residual.ensures.1 in
    rw (passed.1, passed.2) (one-refused _ _ _ _ _ c.in_err-truth.ensures)

pub not-requires : goal.not-requires
not-requires c = made-in _ _ _ _ c.in_ok-truth.ensures

pub returns-then-is_zero-clause-names : goal.returns-then-is_zero-clause-names
returns-then-is_zero-clause-names c =
    let m = c.in_ok-truth.ensures in
    let zero = sym c.is_zero.ensures ∙ c.if-is_zero.true in
    names-as _ _ _ _ _ (sym (named-zero c.args.event.value _ zero)) (two-named _ _ _ _ _ _ _ m (makes-as _ _ _ _ _ (ap negation (made-at _ _ _ _ m)) c.not.ensures))

pub returns-else-is_zero-clause-names : goal.returns-else-is_zero-clause-names
returns-else-is_zero-clause-names c =
    let zero = sym c.is_zero.ensures ∙ c.if-is_zero.false in
    names-as _ _ _ _ _ (sym (named-other c.args.event.value _ zero)) (named-twice _ _ _ _ c.in_ok-truth.ensures)
