use Rattle.std.proofs.Common.{ap, ◌∙◌}
use Rattle.std.proofs.lemmas.Result.{err_from_is_err_and}
use Rattle.prv_pool.specs.Folding.{folded, truth}
use Rattle.prv_sym.proofs.Naming.{made-at, made-in, kept-at, kept-in, makes-as, one-refused, two-refused, three-named}
use Rattle.prv_sym.proofs.operators.join.Goals as goal

pub truth-requires-2 : goal.truth-requires-2
truth-requires-2 c = kept-in _ _ _ _ _ c.in_ok-first.ensures c.requires.second

pub op-requires-clause-first : goal.op-requires-clause-first
op-requires-clause-first c = kept-in _ _ _ _ _ c.in_ok-second.ensures (made-in _ _ _ _ c.in_ok-first.ensures)

pub op-requires-clause-second : goal.op-requires-clause-second
op-requires-clause-second c = made-in _ _ _ _ c.in_ok-second.ensures

pub returns-in_err-first-clause-names : goal.returns-in_err-first-clause-names
returns-in_err-first-clause-names c =
    let passed = err_from_is_err_and c.from_residual.result c.from_residual.ensures.1 in
    rw (passed.1, passed.2) (one-refused _ _ _ _ _ c.in_err-first.ensures)

pub returns-in_err-second-clause-names : goal.returns-in_err-second-clause-names
returns-in_err-second-clause-names c =
    let passed = err_from_is_err_and c.from_residual-in_err-second.result c.from_residual-in_err-second.ensures.1 in
    let m = c.in_ok-first.ensures in
    rw (passed.1, passed.2) (two-refused _ _ _ _ _ _ _ _ m (makes-as _ _ _ _ _ (λ i. truth (kept-at _ _ _ _ _ m c.requires.second i)) c.in_err-second.ensures))

pub returns-clause-stands : goal.returns-clause-stands
returns-clause-stands c =
    let m = c.in_ok-first.ensures in
    let k = c.in_ok-second.ensures in
    (makes-as _ _ _ _ _ (λ i. folded c.args.op ((kept-at _ _ _ _ _ k (made-in _ _ _ _ m) ∙ made-at _ _ _ _ m) i) ((made-at _ _ _ _ k ∙ ap truth (kept-at _ _ _ _ _ m c.requires.second)) i)) c.op.ensures).stands

pub returns-clause-names : goal.returns-clause-names
returns-clause-names c =
    let m = c.in_ok-first.ensures in
    let k = c.in_ok-second.ensures in
    three-named _ _ _ _ _ _ _ _ _ _ m (makes-as _ _ _ _ _ (λ i. truth (kept-at _ _ _ _ _ m c.requires.second i)) k)
    (makes-as _ _ _ _ _ (λ i. folded c.args.op ((kept-at _ _ _ _ _ k (made-in _ _ _ _ m) ∙ made-at _ _ _ _ m) i) ((made-at _ _ _ _ k ∙ ap truth (kept-at _ _ _ _ _ m c.requires.second)) i)) c.op.ensures)
