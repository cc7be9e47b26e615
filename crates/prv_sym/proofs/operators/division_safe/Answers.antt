use Rattle.std.proofs.Common.{◌∙◌}
use Rattle.std.proofs.lemmas.Result.{err_from_is_err_and}
use Rattle.prv_model.specs.declared.op.TermOp.TheVariants.{And, Ne}
use Rattle.prv_pool.specs.Folding.{folded}
use Rattle.prv_sym.proofs.Naming.{made-at, made-in, kept-at, kept-in, makes-as, one-refused, two-refused, three-refused, four-named}
use Rattle.prv_sym.proofs.operators.division_safe.Goals as goal

pub op-requires-2-clause-first : goal.op-requires-2-clause-first
op-requires-2-clause-first c = kept-in _ _ _ _ _ c.in_ok-zero.ensures (kept-in _ _ _ _ _ c.in_ok-both.ensures c.requires.second.0)

pub op-requires-2-clause-second : goal.op-requires-2-clause-second
op-requires-2-clause-second c = made-in _ _ _ _ c.in_ok-zero.ensures

pub op-requires-3-clause-first : goal.op-requires-3-clause-first
op-requires-3-clause-first c = kept-in _ _ _ _ _ c.in_ok-divides.ensures (kept-in _ _ _ _ _ c.in_ok-zero.ensures (made-in _ _ _ _ c.in_ok-both.ensures))

pub op-requires-3-clause-second : goal.op-requires-3-clause-second
op-requires-3-clause-second c = made-in _ _ _ _ c.in_ok-divides.ensures

pub returns-in_err-both-clause-names : goal.returns-in_err-both-clause-names
returns-in_err-both-clause-names c =
    let passed = err_from_is_err_and c.from_residual.result c.from_residual.ensures.1 in
    rw (passed.1, passed.2) (one-refused _ _ _ _ _ c.in_err-both.ensures)

pub returns-in_err-zero-clause-names : goal.returns-in_err-zero-clause-names
returns-in_err-zero-clause-names c =
    let passed = err_from_is_err_and c.from_residual-in_err-zero.result c.from_residual-in_err-zero.ensures.1 in
    rw (passed.1, passed.2) (two-refused _ _ _ _ _ _ _ _ c.in_ok-both.ensures c.in_err-zero.ensures)

pub returns-in_err-divides-clause-names : goal.returns-in_err-divides-clause-names
returns-in_err-divides-clause-names c =
    let passed = err_from_is_err_and c.from_residual-in_err-divides.result c.from_residual-in_err-divides.ensures.1 in
    let m = c.in_ok-both.ensures in
    let k = c.in_ok-zero.ensures in
    let y = kept-at _ _ _ _ _ k (kept-in _ _ _ _ _ m c.requires.second.0) ∙ kept-at _ _ _ _ _ m c.requires.second.0 in
    rw (passed.1, passed.2) (three-refused _ _ _ _ _ _ _ _ _ _ _ m k (makes-as _ _ _ _ _ (λ i. folded Ne (y i) (made-at _ _ _ _ k i)) c.in_err-divides.ensures))

pub returns-clause-stands : goal.returns-clause-stands
returns-clause-stands c = λ op.
    let m = c.in_ok-both.ensures in
    let k = c.in_ok-zero.ensures in
    let y = kept-at _ _ _ _ _ k (kept-in _ _ _ _ _ m c.requires.second.0) ∙ kept-at _ _ _ _ _ m c.requires.second.0 in
    let d = makes-as _ _ _ _ _ (λ i. folded Ne (y i) (made-at _ _ _ _ k i)) c.in_ok-divides.ensures in
    let both = kept-at _ _ _ _ _ d (kept-in _ _ _ _ _ k (made-in _ _ _ _ m)) ∙ kept-at _ _ _ _ _ k (made-in _ _ _ _ m) ∙ made-at _ _ _ _ m in
    (makes-as _ _ _ _ _ (λ i. folded And (both i) (made-at _ _ _ _ d i)) c.op-3.ensures).stands

pub returns-clause-names : goal.returns-clause-names
returns-clause-names c =
    let m = c.in_ok-both.ensures in
    let k = c.in_ok-zero.ensures in
    let y = kept-at _ _ _ _ _ k (kept-in _ _ _ _ _ m c.requires.second.0) ∙ kept-at _ _ _ _ _ m c.requires.second.0 in
    let d = makes-as _ _ _ _ _ (λ i. folded Ne (y i) (made-at _ _ _ _ k i)) c.in_ok-divides.ensures in
    let both = kept-at _ _ _ _ _ d (kept-in _ _ _ _ _ k (made-in _ _ _ _ m)) ∙ kept-at _ _ _ _ _ k (made-in _ _ _ _ m) ∙ made-at _ _ _ _ m in
    four-named _ _ _ _ _ _ _ _ _ _ _ _ _ m k d (makes-as _ _ _ _ _ (λ i. folded And (both i) (made-at _ _ _ _ d i)) c.op-3.ensures)
