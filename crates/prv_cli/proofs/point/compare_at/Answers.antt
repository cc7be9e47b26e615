use Rattle.std.proofs.Common.{Err, Ok, List, ℤ}
use Rattle.std.proofs.lemmas.Result.{err_from_is_err_and}
use Rattle.prv_model.specs.declared.program.Pair.{Pair}
use Rattle.prv_line.specs.declared.limits.TheConstants.{TURNS}
use Rattle.prv_cli.specs.Steps.{Step, Shown, ◌>>◌}
use Rattle.prv_cli.specs.Readings.{fits}
use Rattle.prv_cli.specs.Pairings.{pair_of_files}
use Rattle.prv_cli.specs.Points.{show_point}
use Rattle.prv_cli.proofs.Following.{follows-refused, follows-both, follows-nothing}
use Rattle.prv_cli.proofs.point.compare_at.Goals as goal

-- what is left to be done behind the pair
abbrev with-pair : List ℤ → Pair → Step Shown
with-pair input pair = fits input pair.before.params >> show_point pair input

pub returns-in_err-pair-clause-done : goal.returns-in_err-pair-clause-done
returns-in_err-pair-clause-done g c =
    let passed = err_from_is_err_and c.from_residual.result c.from_residual.ensures.1 in
    rw (passed.1, passed.2) (follows-refused g.F.Files.reads (g.F.Files.known c.args.files.now) c.args.files.now _ (pair_of_files TURNS.default c.args.before.now c.args.after.now) (with-pair c.args.input.now) c.in_err-pair.field-0.0 c.in_err-pair.ensures.done)

pub returns-in_err-fit-clause-done : goal.returns-in_err-fit-clause-done
returns-in_err-fit-clause-done g c =
    let passed = err_from_is_err_and c.from_residual-in_err-fit.result c.from_residual-in_err-fit.ensures.1 in
    let reads = g.F.Files.reads in
    let told = g.F.Files.known c.args.files.now in
    let input = c.args.input.now in
    let pair = c.in_ok-pair.pair in
    let why = c.in_err-fit.field-0.0 in
    let test = fits input pair.before.params in
    rw (passed.1, passed.2) (follows-both reads told c.args.files.now _ _ (pair_of_files TURNS.default c.args.before.now c.args.after.now) (with-pair input) pair (Err why) c.in_ok-pair.ensures.done
    (follows-refused reads told _ _ test (λ _. show_point pair input) why (follows-nothing reads told _ test (Err why) (c.in_err-fit.ensures.fits told))))

pub returns-clause-done : goal.returns-clause-done
returns-clause-done g c =
    let reads = g.F.Files.reads in
    let told = g.F.Files.known c.args.files.now in
    let input = c.args.input.now in
    let pair = c.in_ok-pair.pair in
    let answer = c.show_point.result in
    let test = fits input pair.before.params in
    follows-both reads told c.args.files.now _ _ (pair_of_files TURNS.default c.args.before.now c.args.after.now) (with-pair input) pair answer c.in_ok-pair.ensures.done
    (follows-both reads told _ _ _ test (λ _. show_point pair input) tt answer (follows-nothing reads told _ test (Ok tt) (c.in_ok-fit.ensures.fits told))
    (follows-nothing reads told _ (show_point pair input) answer (c.show_point.ensures.shown told)))

pub show_point-requires : goal.show_point-requires
show_point-requires g c = (c.in_ok-fit.ensures.fits (g.F.Files.known c.args.files.now)).1
