use Rattle.std.proofs.Common.{◌∙◌}
use Rattle.std.proofs.lemmas.Result.{err_from_is_err_and}
use Rattle.prv_model.specs.declared.op.TermOp.TheVariants.{And, Or}
use Rattle.prv_pool.specs.Folding.{folded}
use Rattle.prv_sym.proofs.Naming.{made-at, made-in, kept-at, kept-in, makes-as, one-refused, two-refused, three-named}
use Rattle.prv_sym.proofs.operators.where_true.Goals as goal

pub op-requires-clause-first : goal.op-requires-clause-first
op-requires-clause-first c = made-in _ _ _ _ c.in_ok-fails.ensures

pub op-requires-clause-second : goal.op-requires-clause-second
op-requires-clause-second c = kept-in _ _ _ _ _ c.in_ok-fails.ensures c.requires.second

pub op-requires-2-clause-first : goal.op-requires-2-clause-first
op-requires-2-clause-first c = kept-in _ _ _ _ _ c.in_ok-either.ensures (kept-in _ _ _ _ _ c.in_ok-fails.ensures c.requires.first)

pub op-requires-2-clause-second : goal.op-requires-2-clause-second
op-requires-2-clause-second c = made-in _ _ _ _ c.in_ok-either.ensures

pub returns-in_err-fails-clause-names : goal.returns-in_err-fails-clause-names
returns-in_err-fails-clause-names c =
    let passed = err_from_is_err_and c.from_residual.result c.from_residual.ensures.1 in
    rw (passed.1, passed.2) (one-refused _ _ _ _ _ c.in_err-fails.ensures)

pub returns-in_err-either-clause-names : goal.returns-in_err-either-clause-names
returns-in_err-either-clause-names c =
    let passed = err_from_is_err_and c.from_residual-in_err-either.result c.from_residual-in_err-either.ensures.1 in
    let m = c.in_ok-fails.ensures in
    rw (passed.1, passed.2) (two-refused _ _ _ _ _ _ _ _ m (makes-as _ _ _ _ _ (λ i. folded Or (made-at _ _ _ _ m i) (kept-at _ _ _ _ _ m c.requires.second i)) c.in_err-either.ensures))

pub returns-clause-stands : goal.returns-clause-stands
returns-clause-stands c =
    let m = c.in_ok-fails.ensures in
    let k = makes-as _ _ _ _ _ (λ i. folded Or (made-at _ _ _ _ m i) (kept-at _ _ _ _ _ m c.requires.second i)) c.in_ok-either.ensures in
    let first = kept-at _ _ _ _ _ k (kept-in _ _ _ _ _ m c.requires.first) ∙ kept-at _ _ _ _ _ m c.requires.first in
    (makes-as _ _ _ _ _ (λ i. folded And (first i) (made-at _ _ _ _ k i)) c.op-2.ensures).stands

pub returns-clause-names : goal.returns-clause-names
returns-clause-names c =
    let m = c.in_ok-fails.ensures in
    let k = makes-as _ _ _ _ _ (λ i. folded Or (made-at _ _ _ _ m i) (kept-at _ _ _ _ _ m c.requires.second i)) c.in_ok-either.ensures in
    let first = kept-at _ _ _ _ _ k (kept-in _ _ _ _ _ m c.requires.first) ∙ kept-at _ _ _ _ _ m c.requires.first in
    three-named _ _ _ _ _ _ _ _ _ _ m k (makes-as _ _ _ _ _ (λ i. folded And (first i) (made-at _ _ _ _ k i)) c.op-2.ensures)
