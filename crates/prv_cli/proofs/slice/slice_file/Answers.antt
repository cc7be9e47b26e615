use Rattle.std.proofs.Common.{Err, Ok, List, ℤ}
use Rattle.std.proofs.lemmas.Result.{err_from_is_err_and}
use Rattle.prv_names.specs.declared.version.Version.{Version}
use Rattle.prv_cli.specs.Steps.{Step, Shown, ◌>>◌}
use Rattle.prv_cli.specs.Readings.{version, fits}
use Rattle.prv_cli.specs.Slices.{show_slice}
use Rattle.prv_cli.specs.declared.refusal.Who.TheVariants.{Only}
use Rattle.prv_cli.proofs.Following.{follows-refused, follows-both, follows-nothing}
use Rattle.prv_cli.proofs.slice.slice_file.Goals as goal

abbrev behind : List ℤ → Version → Step Shown
behind input v = fits input v.program.params >> show_slice v.program input

pub returns-in_err-version-clause-done : goal.returns-in_err-version-clause-done
returns-in_err-version-clause-done g c =
    let passed = err_from_is_err_and c.from_residual.result c.from_residual.ensures.1 in
    rw (passed.1, passed.2) (follows-refused g.F.Files.reads (g.F.Files.known c.args.files.now) c.args.files.now _ (version Only c.args.file.now) (behind c.args.input.now) c.in_err-version.field-0.0 c.in_err-version.ensures.loaded)

pub returns-in_err-fit-clause-done : goal.returns-in_err-fit-clause-done
returns-in_err-fit-clause-done g c =
    let passed = err_from_is_err_and c.from_residual-in_err-fit.result c.from_residual-in_err-fit.ensures.1 in
    let told = g.F.Files.known c.args.files.now in
    let v = c.in_ok-version.version in
    let input = c.args.input.now in
    let test = fits input v.program.params in
    rw (passed.1, passed.2) (follows-both g.F.Files.reads told c.args.files.now _ _ (version Only c.args.file.now) (behind input) v (Err c.in_err-fit.field-0.0) c.in_ok-version.ensures.loaded
    (follows-refused g.F.Files.reads told _ _ test (λ _. show_slice v.program input) c.in_err-fit.field-0.0
    (follows-nothing g.F.Files.reads told _ test (Err c.in_err-fit.field-0.0) (c.in_err-fit.ensures.fits told))))

pub returns-clause-done : goal.returns-clause-done
returns-clause-done g c =
    let told = g.F.Files.known c.args.files.now in
    let v = c.in_ok-version.version in
    let input = c.args.input.now in
    let test = fits input v.program.params in
    follows-both g.F.Files.reads told c.args.files.now _ _ (version Only c.args.file.now) (behind input) v c.show_slice.result c.in_ok-version.ensures.loaded
    (follows-both g.F.Files.reads told _ _ _ test (λ _. show_slice v.program input) tt c.show_slice.result
    (follows-nothing g.F.Files.reads told _ test (Ok tt) (c.in_ok-fit.ensures.fits told))
    (follows-nothing g.F.Files.reads told _ (show_slice v.program input) c.show_slice.result (c.show_slice.ensures.shown told)))

pub show_slice-requires : goal.show_slice-requires
show_slice-requires g c = (c.in_ok-fit.ensures.fits (g.F.Files.known c.args.files.now)).1
