use Rattle.std.proofs.Common.{Err, List, ℕ, inl}
use Rattle.std.proofs.lemmas.Result.{err_from_is_err_and}
use Rattle.prv_model.specs.declared.program.Pair.{Pair}
use Rattle.prv_names.specs.declared.version.Version.{Version}
use Rattle.prv_cli.specs.Steps.{Step, ◌>>=◌}
use Rattle.prv_cli.specs.Readings.{version_of}
use Rattle.prv_cli.specs.Pairings.{pair_of}
use Rattle.prv_cli.specs.declared.refusal.Who.TheVariants.{Old, New}
use Rattle.prv_cli.proofs.Following.{nothing-both}
use Rattle.prv_cli.proofs.pairing.pair_of_bytes.Goals as goal

-- what is left to be done behind the old version
abbrev with-old : ℕ → List ℕ → Version → Step Pair
with-old turns after old = version_of New after >>= pair_of turns old

pub returns-in_err-old-clause-done : goal.returns-in_err-old-clause-done
returns-in_err-old-clause-done c = λ told.
    let passed = err_from_is_err_and c.from_residual.result c.from_residual.ensures.1 in
    rw (passed.1, passed.2) (inl (c.in_err-old.ensures.given told))

pub returns-in_err-new-clause-done : goal.returns-in_err-new-clause-done
returns-in_err-new-clause-done c = λ told.
    let passed = err_from_is_err_and c.from_residual-in_err-new.result c.from_residual-in_err-new.ensures.1 in
    let old = c.in_ok-old.old in
    rw (passed.1, passed.2) (nothing-both told (version_of Old c.args.before.now) (with-old c.args.turns c.args.after.now) old (Err c.in_err-new.field-0.0) (c.in_ok-old.ensures.given told)
    (inl (c.in_err-new.ensures.given told)))

pub returns-clause-done : goal.returns-clause-done
returns-clause-done c = λ told.
    let old = c.in_ok-old.old in
    let new = c.in_ok-new.new in
    nothing-both told (version_of Old c.args.before.now) (with-old c.args.turns c.args.after.now) old c.pair_of.result (c.in_ok-old.ensures.given told)
    (nothing-both told (version_of New c.args.after.now) (pair_of c.args.turns old) new c.pair_of.result (c.in_ok-new.ensures.given told) (c.pair_of.ensures.paired told))
