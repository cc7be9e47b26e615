use Rattle.std.proofs.lemmas.Result.{err_from_is_err_and}
use Rattle.prv_pool.specs.Tables.{term_at}
use Rattle.prv_sym.specs.Named.{safe_where_true, safe_where_false, false_named}
use Rattle.prv_sym.proofs.Naming.{names-as, names-then, names-stop, stands-as, stands-at, stands-in, term-kept, still-in}
use Rattle.prv_sym.proofs.operators.choice_safe.Goals as goal

pub where_false-requires-clause-test : goal.where_false-requires-clause-test
where_false-requires-clause-test c = still-in _ _ _ c.in_ok-first.ensures.names.kept c.requires.test

pub where_false-requires-clause-first : goal.where_false-requires-clause-first
where_false-requires-clause-first c = stands-in _ _ _ c.in_ok-first.ensures.stands

pub where_false-requires-clause-second : goal.where_false-requires-clause-second
where_false-requires-clause-second c = still-in _ _ _ c.in_ok-first.ensures.names.kept c.requires.third

pub returns-in_err-first-clause-names : goal.returns-in_err-first-clause-names
returns-in_err-first-clause-names c =
    let passed = err_from_is_err_and c.from_residual.result c.from_residual.ensures.1 in
    rw (passed.1, passed.2) (names-stop _ _ _ _ _ c.in_err-first.ensures.names)

pub returns-clause-stands : goal.returns-clause-stands
returns-clause-stands c =
    let k = c.in_ok-first.ensures.names.kept in
    stands-as _ _ _ _ (λ i. safe_where_false (term-kept _ _ _ k c.requires.test i) (stands-at c.where_true.new.pool.terms c.in_ok-first.first (safe_where_true (term_at c.args.pool.now.terms c.args.truth) (term_at c.args.pool.now.terms c.args.safe) (term_at c.args.pool.now.terms c.args.chosen)) c.in_ok-first.ensures.stands i) (term-kept _ _ _ k c.requires.third i)) c.where_false.ensures.stands

pub returns-clause-names : goal.returns-clause-names
returns-clause-names c =
    let k = c.in_ok-first.ensures.names.kept in
    names-then _ _ _ _ _ _ _ c.in_ok-first.ensures.names
    (names-as _ _ _ _ _ (λ i. false_named (term-kept _ _ _ k c.requires.test i) (stands-at c.where_true.new.pool.terms c.in_ok-first.first (safe_where_true (term_at c.args.pool.now.terms c.args.truth) (term_at c.args.pool.now.terms c.args.safe) (term_at c.args.pool.now.terms c.args.chosen)) c.in_ok-first.ensures.stands i) (term-kept _ _ _ k c.requires.third i)) c.where_false.ensures.names)
