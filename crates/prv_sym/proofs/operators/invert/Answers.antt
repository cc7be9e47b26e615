use Rattle.std.proofs.lemmas.Result.{err_from_is_err_and}
use Rattle.prv_pool.specs.Folding.{negation}
use Rattle.prv_sym.proofs.Naming.{made-at, made-in, makes-as, one-refused, two-named}
use Rattle.prv_sym.proofs.operators.invert.Goals as goal

pub not-requires : goal.not-requires
not-requires c = made-in _ _ _ _ c.in_ok-truth.ensures

pub returns-in_err-truth-clause-names : goal.returns-in_err-truth-clause-names
returns-in_err-truth-clause-names c =
    let passed = err_from_is_err_and c.from_residual.result c.from_residual.ensures.1 in
    rw (passed.1, passed.2) (one-refused _ _ _ _ _ c.in_err-truth.ensures)

pub returns-clause-stands : goal.returns-clause-stands
returns-clause-stands c =
    (makes-as _ _ _ _ _ (λ i. negation (made-at _ _ _ _ c.in_ok-truth.ensures i)) c.not.ensures).stands

pub returns-clause-names : goal.returns-clause-names
returns-clause-names c =
    let m = c.in_ok-truth.ensures in
    two-named _ _ _ _ _ _ _ m (makes-as _ _ _ _ _ (λ i. negation (made-at _ _ _ _ m i)) c.not.ensures)
