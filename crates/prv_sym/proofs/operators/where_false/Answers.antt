use Rattle.std.proofs.lemmas.Result.{err_from_is_err_and}
use Rattle.prv_model.specs.declared.op.TermOp.TheVariants.{And}
use Rattle.prv_pool.specs.Folding.{folded}
use Rattle.prv_sym.proofs.Naming.{made-at, made-in, kept-at, kept-in, makes-as, one-refused, two-named}
use Rattle.prv_sym.proofs.operators.where_false.Goals as goal

pub op-requires-2-clause-first : goal.op-requires-2-clause-first
op-requires-2-clause-first c = kept-in _ _ _ _ _ c.in_ok-either.ensures c.requires.first

pub op-requires-2-clause-second : goal.op-requires-2-clause-second
op-requires-2-clause-second c = made-in _ _ _ _ c.in_ok-either.ensures

pub returns-in_err-either-clause-names : goal.returns-in_err-either-clause-names
returns-in_err-either-clause-names c =
    let passed = err_from_is_err_and c.from_residual.result c.from_residual.ensures.1 in
    rw (passed.1, passed.2) (one-refused _ _ _ _ _ c.in_err-either.ensures)

pub returns-clause-stands : goal.returns-clause-stands
returns-clause-stands c =
    let m = c.in_ok-either.ensures in
    (makes-as _ _ _ _ _ (λ i. folded And (kept-at _ _ _ _ _ m c.requires.first i) (made-at _ _ _ _ m i)) c.op-2.ensures).stands

pub returns-clause-names : goal.returns-clause-names
returns-clause-names c =
    let m = c.in_ok-either.ensures in
    two-named _ _ _ _ _ _ _ m (makes-as _ _ _ _ _ (λ i. folded And (kept-at _ _ _ _ _ m c.requires.first i) (made-at _ _ _ _ m i)) c.op-2.ensures)
