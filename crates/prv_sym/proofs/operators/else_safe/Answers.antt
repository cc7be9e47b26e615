use Rattle.std.proofs.Common.{[], ◌∷◌}
use Rattle.std.proofs.lemmas.Result.{err_from_is_err_and}
use Rattle.prv_sym.specs.Named.{safe_where_false, false_named}
use Rattle.prv_sym.proofs.Naming.{made-at, made-in, kept-at, kept-in, names-as, names-one, names-then, one-refused, stands-as}
use Rattle.prv_sym.proofs.operators.else_safe.Goals as goal

pub where_false-requires-clause-test : goal.where_false-requires-clause-test
where_false-requires-clause-test c = made-in _ _ _ _ c.in_ok-truth.ensures

pub where_false-requires-clause-first : goal.where_false-requires-clause-first
where_false-requires-clause-first c = kept-in _ _ _ _ _ c.in_ok-truth.ensures c.requires.first.1

pub where_false-requires-clause-second : goal.where_false-requires-clause-second
where_false-requires-clause-second c = kept-in _ _ _ _ _ c.in_ok-truth.ensures c.requires.second.1

pub returns-in_err-truth-clause-names : goal.returns-in_err-truth-clause-names
returns-in_err-truth-clause-names c =
    let passed = err_from_is_err_and c.from_residual.result c.from_residual.ensures.1 in
    rw (passed.1, passed.2) (one-refused _ _ _ _ _ c.in_err-truth.ensures)

pub returns-clause-stands : goal.returns-clause-stands
returns-clause-stands c =
    let m = c.in_ok-truth.ensures in
    stands-as _ _ _ _ (λ i. safe_where_false (made-at _ _ _ _ m i) (kept-at _ _ _ _ _ m c.requires.first.1 i) (kept-at _ _ _ _ _ m c.requires.second.1 i)) c.where_false.ensures.stands

pub returns-clause-names : goal.returns-clause-names
returns-clause-names c =
    let m = c.in_ok-truth.ensures in
    names-then (_ ∷ []) _ _ _ _ _ _ (names-one _ _ _ _ m)
    (names-as _ _ _ _ _ (λ i. false_named (made-at _ _ _ _ m i) (kept-at _ _ _ _ _ m c.requires.first.1 i) (kept-at _ _ _ _ _ m c.requires.second.1 i)) c.where_false.ensures.names)
