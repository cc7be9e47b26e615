use Rattle.std.proofs.Common.{[], ◌∷◌, Ok, ◌∙◌}
use Rattle.std.proofs.lemmas.Result.{err_from_is_err_and}
use Rattle.prv_pool.specs.Folding.{folded_pick}
use Rattle.prv_sym.specs.Named.{chosen_safe, chosen_named}
use Rattle.prv_sym.proofs.Naming.{made-at, made-in, kept-at, kept-in, makes-as, names-as, names-then, refused, answered, one-refused, two-named, two-refused, stands-on, stands-as}
use Rattle.prv_sym.proofs.operators.pick.Goals as goal

pub pick-requires-clause-test : goal.pick-requires-clause-test
pick-requires-clause-test c = made-in _ _ _ _ c.in_ok-truth.ensures

pub pick-requires-clause-chosen : goal.pick-requires-clause-chosen
pick-requires-clause-chosen c = kept-in _ _ _ _ _ c.in_ok-truth.ensures c.requires.chosen.0

pub pick-requires-clause-other : goal.pick-requires-clause-other
pick-requires-clause-other c = kept-in _ _ _ _ _ c.in_ok-truth.ensures c.requires.other.0

pub choice_safe-requires-clause-test : goal.choice_safe-requires-clause-test
choice_safe-requires-clause-test c = kept-in _ _ _ _ _ c.in_ok-value.ensures (made-in _ _ _ _ c.in_ok-truth.ensures)

pub choice_safe-requires-clause-first : goal.choice_safe-requires-clause-first
choice_safe-requires-clause-first c = kept-in _ _ _ _ _ c.in_ok-value.ensures (kept-in _ _ _ _ _ c.in_ok-truth.ensures c.requires.test.1)

pub choice_safe-requires-clause-second : goal.choice_safe-requires-clause-second
choice_safe-requires-clause-second c = kept-in _ _ _ _ _ c.in_ok-value.ensures (kept-in _ _ _ _ _ c.in_ok-truth.ensures c.requires.chosen.1)

pub choice_safe-requires-clause-third : goal.choice_safe-requires-clause-third
choice_safe-requires-clause-third c = kept-in _ _ _ _ _ c.in_ok-value.ensures (kept-in _ _ _ _ _ c.in_ok-truth.ensures c.requires.other.1)

pub returns-in_err-truth-clause-names : goal.returns-in_err-truth-clause-names
returns-in_err-truth-clause-names c =
    let passed = err_from_is_err_and c.from_residual.result c.from_residual.ensures.1 in
    rw (passed.1, passed.2) (one-refused _ _ _ _ _ c.in_err-truth.ensures)

pub returns-in_err-value-clause-names : goal.returns-in_err-value-clause-names
returns-in_err-value-clause-names c =
    let passed = err_from_is_err_and c.from_residual-in_err-value.result c.from_residual-in_err-value.ensures.1 in
    let m = c.in_ok-truth.ensures in
    rw (passed.1, passed.2) (two-refused _ _ _ _ _ _ _ _ m
    (makes-as _ _ _ _ _ (λ i. folded_pick (made-at _ _ _ _ m i) (kept-at _ _ _ _ _ m c.requires.chosen.0 i) (kept-at _ _ _ _ _ m c.requires.other.0 i)) c.in_err-value.ensures))

pub returns-in_err-safe-clause-names : goal.returns-in_err-safe-clause-names
returns-in_err-safe-clause-names c =
    let passed = err_from_is_err_and c.from_residual-in_err-safe.result c.from_residual-in_err-safe.ensures.1 in
    let m = c.in_ok-truth.ensures in
    let k = makes-as _ _ _ _ _ (λ i. folded_pick (made-at _ _ _ _ m i) (kept-at _ _ _ _ _ m c.requires.chosen.0 i) (kept-at _ _ _ _ _ m c.requires.other.0 i)) c.in_ok-value.ensures in
    let t = kept-at _ _ _ _ _ k (made-in _ _ _ _ m) ∙ made-at _ _ _ _ m in
    let s = kept-at _ _ _ _ _ k (kept-in _ _ _ _ _ m c.requires.test.1) ∙ kept-at _ _ _ _ _ m c.requires.test.1 in
    let x = kept-at _ _ _ _ _ k (kept-in _ _ _ _ _ m c.requires.chosen.1) ∙ kept-at _ _ _ _ _ m c.requires.chosen.1 in
    let y = kept-at _ _ _ _ _ k (kept-in _ _ _ _ _ m c.requires.other.1) ∙ kept-at _ _ _ _ _ m c.requires.other.1 in
    rw (passed.1, passed.2) (names-then (_ ∷ _ ∷ []) _ _ _ _ _ _ (two-named _ _ _ _ _ _ _ m k)
    (refused _ _ _ _ (names-as _ _ _ _ _ (λ i. chosen_named (t i) (s i) (x i) (y i)) c.in_err-safe.ensures.names)))

pub returns-clause-value : goal.returns-clause-value
returns-clause-value c =
    let m = c.in_ok-truth.ensures in
    let k = makes-as _ _ _ _ _ (λ i. folded_pick (made-at _ _ _ _ m i) (kept-at _ _ _ _ _ m c.requires.chosen.0 i) (kept-at _ _ _ _ _ m c.requires.other.0 i)) c.in_ok-value.ensures in
    stands-on _ _ _ _ c.in_ok-safe.ensures.names.kept k.stands

pub returns-clause-safe : goal.returns-clause-safe
returns-clause-safe c =
    let m = c.in_ok-truth.ensures in
    let k = makes-as _ _ _ _ _ (λ i. folded_pick (made-at _ _ _ _ m i) (kept-at _ _ _ _ _ m c.requires.chosen.0 i) (kept-at _ _ _ _ _ m c.requires.other.0 i)) c.in_ok-value.ensures in
    let t = kept-at _ _ _ _ _ k (made-in _ _ _ _ m) ∙ made-at _ _ _ _ m in
    let s = kept-at _ _ _ _ _ k (kept-in _ _ _ _ _ m c.requires.test.1) ∙ kept-at _ _ _ _ _ m c.requires.test.1 in
    let x = kept-at _ _ _ _ _ k (kept-in _ _ _ _ _ m c.requires.chosen.1) ∙ kept-at _ _ _ _ _ m c.requires.chosen.1 in
    let y = kept-at _ _ _ _ _ k (kept-in _ _ _ _ _ m c.requires.other.1) ∙ kept-at _ _ _ _ _ m c.requires.other.1 in
    stands-as _ _ _ (Ok c.in_ok-safe.safe) (λ i. chosen_safe (t i) (s i) (x i) (y i)) c.in_ok-safe.ensures.stands

pub returns-clause-names : goal.returns-clause-names
returns-clause-names c =
    let m = c.in_ok-truth.ensures in
    let k = makes-as _ _ _ _ _ (λ i. folded_pick (made-at _ _ _ _ m i) (kept-at _ _ _ _ _ m c.requires.chosen.0 i) (kept-at _ _ _ _ _ m c.requires.other.0 i)) c.in_ok-value.ensures in
    let t = kept-at _ _ _ _ _ k (made-in _ _ _ _ m) ∙ made-at _ _ _ _ m in
    let s = kept-at _ _ _ _ _ k (kept-in _ _ _ _ _ m c.requires.test.1) ∙ kept-at _ _ _ _ _ m c.requires.test.1 in
    let x = kept-at _ _ _ _ _ k (kept-in _ _ _ _ _ m c.requires.chosen.1) ∙ kept-at _ _ _ _ _ m c.requires.chosen.1 in
    let y = kept-at _ _ _ _ _ k (kept-in _ _ _ _ _ m c.requires.other.1) ∙ kept-at _ _ _ _ _ m c.requires.other.1 in
    names-then (_ ∷ _ ∷ []) _ _ _ _ _ _ (two-named _ _ _ _ _ _ _ m k)
    (answered _ _ _ _ _ (names-as _ _ _ _ _ (λ i. chosen_named (t i) (s i) (x i) (y i)) c.in_ok-safe.ensures.names))
