use Rattle.std.proofs.Common.{Err, Ok, List, ℕ, subst}
use Rattle.std.proofs.lemmas.Result.{err_from_is_err_and}
use Rattle.prv_model.specs.declared.program.Pair.{Pair}
use Rattle.prv_names.specs.declared.version.Version.{Version}
use Rattle.prv_cli.specs.Steps.{Step, ◌>>=◌}
use Rattle.prv_cli.specs.Readings.{version}
use Rattle.prv_cli.specs.Pairings.{pair_of}
use Rattle.prv_cli.specs.Answers.{Follows}
use Rattle.prv_cli.specs.declared.refusal.Who.TheVariants.{Old, New}
use Rattle.prv_cli.proofs.Following.{follows-refused, follows-both, follows-nothing}
use Rattle.prv_cli.proofs.pairing.load_pair.Goals as goal

-- what is left to be done behind the old version
abbrev with-old : ℕ → List ℕ → Version → Step Pair
with-old turns after old = version New after >>= pair_of turns old

pub returns-in_err-old-clause-done : goal.returns-in_err-old-clause-done
returns-in_err-old-clause-done g c =
    let passed = err_from_is_err_and c.from_residual.result c.from_residual.ensures.1 in
    rw (passed.1, passed.2) (follows-refused g.F.Files.reads (g.F.Files.known c.args.files.now) c.args.files.now _ (version Old c.args.before.now) (with-old c.args.turns c.args.after.now) c.in_err-old.field-0.0 c.in_err-old.ensures.loaded)

pub returns-in_err-new-clause-done : goal.returns-in_err-new-clause-done
returns-in_err-new-clause-done g c =
    let passed = err_from_is_err_and c.from_residual-in_err-new.result c.from_residual-in_err-new.ensures.1 in
    let reads = g.F.Files.reads in
    let told = g.F.Files.known c.args.files.now in
    let after = c.args.after.now in
    let old = c.in_ok-old.old in
    let read = subst (λ k. Follows reads k c.load.new.files c.load-2.new.files (version New after) (Err c.in_err-new.field-0.0)) c.in_ok-old.ensures.same c.in_err-new.ensures.loaded in
    rw (passed.1, passed.2) (follows-both reads told c.args.files.now _ _ (version Old c.args.before.now) (with-old c.args.turns after) old (Err c.in_err-new.field-0.0) c.in_ok-old.ensures.loaded
    (follows-refused reads told _ _ (version New after) (pair_of c.args.turns old) c.in_err-new.field-0.0 read))

pub returns-clause-done : goal.returns-clause-done
returns-clause-done g c =
    let reads = g.F.Files.reads in
    let told = g.F.Files.known c.args.files.now in
    let after = c.args.after.now in
    let old = c.in_ok-old.old in
    let new = c.in_ok-new.new in
    let answer = c.pair_of.result in
    let read = subst (λ k. Follows reads k c.load.new.files c.load-2.new.files (version New after) (Ok new)) c.in_ok-old.ensures.same c.in_ok-new.ensures.loaded in
    follows-both reads told c.args.files.now _ _ (version Old c.args.before.now) (with-old c.args.turns after) old answer c.in_ok-old.ensures.loaded
    (follows-both reads told _ _ _ (version New after) (pair_of c.args.turns old) new answer read
    (follows-nothing reads told _ (pair_of c.args.turns old new) answer (c.pair_of.ensures.paired told)))
