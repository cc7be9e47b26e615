use Rattle.std.proofs.lemmas.Result.{err_from_is_err_and}
use Rattle.prv_model.specs.declared.op.TermOp.TheVariants.{Sub}
use Rattle.prv_pool.specs.Folding.{folded}
use Rattle.prv_sym.proofs.Naming.{made-at, made-in, kept-at, kept-in, makes-as, one-refused, two-named}
use Rattle.prv_sym.proofs.operators.negate.Goals as goal

pub op-requires-clause-first : goal.op-requires-clause-first
op-requires-clause-first c = made-in _ _ _ _ c.in_ok-zero.ensures

pub op-requires-clause-second : goal.op-requires-clause-second
op-requires-clause-second c = kept-in _ _ _ _ _ c.in_ok-zero.ensures c.requires

pub returns-in_err-zero-clause-names : goal.returns-in_err-zero-clause-names
returns-in_err-zero-clause-names c =
    let passed = err_from_is_err_and c.from_residual.result c.from_residual.ensures.1 in
    rw (passed.1, passed.2) (one-refused _ _ _ _ _ c.in_err-zero.ensures)

pub returns-clause-stands : goal.returns-clause-stands
returns-clause-stands c =
    let m = c.in_ok-zero.ensures in
    (makes-as _ _ _ _ _ (λ i. folded Sub (made-at _ _ _ _ m i) (kept-at _ _ _ _ _ m c.requires i)) c.op.ensures).stands

pub returns-clause-names : goal.returns-clause-names
returns-clause-names c =
    let m = c.in_ok-zero.ensures in
    two-named _ _ _ _ _ _ _ m (makes-as _ _ _ _ _ (λ i. folded Sub (made-at _ _ _ _ m i) (kept-at _ _ _ _ _ m c.requires i)) c.op.ensures)
