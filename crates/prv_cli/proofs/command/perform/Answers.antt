use Rattle.std.proofs.Common.{ℕ, List, Option, Ok, Err, refl, sym, ◌∙◌, subst}
use Rattle.std.specs.Option.{option_copied}
use Rattle.std.proofs.lemmas.Result.{err_from_is_err_and}
use Rattle.prv_line.specs.Commands.{Settings}
use Rattle.prv_line.specs.declared.command.Plan.{Plan}
use Rattle.prv_explore.specs.declared.plan.Plan as explored
use Rattle.prv_cli.specs.Steps.{writes, ◌>>=◌}
use Rattle.prv_cli.specs.Runs.{run}
use Rattle.prv_cli.specs.Points.{point}
use Rattle.prv_cli.specs.Slices.{slice}
use Rattle.prv_cli.specs.Explores.{is_plain, explore, explore_with}
use Rattle.prv_cli.specs.Generates.{generate}
use Rattle.prv_cli.specs.Commands.{not_built}
use Rattle.prv_cli.specs.Answers.{Follows}
use Rattle.prv_cli.specs.declared.refusal.Refusal.TheVariants.{Later}
use Rattle.prv_cli.proofs.Following.{follows-nothing, performs-refused, performs-writes, performs-nothing, performs-plain, performs-later}
use Rattle.prv_cli.proofs.command.perform.Goals as goal

pub returns-in_err-report-in-Run-clause-performed : goal.returns-in_err-report-in-Run-clause-performed
returns-in_err-report-in-Run-clause-performed g c =
    let passed = err_from_is_err_and c.from_residual.result c.from_residual.ensures.1 in
    rw (c.in-Run.is, passed.1, passed.2) (performs-refused g.F.Files.reads (g.F.Files.known c.args.files.now) _ _ _ (run c.in-Run.file.now c.in-Run.input) writes c.in_err-report-in-Run.field-0.0 c.in_err-report-in-Run.ensures.done)

pub returns-in_ok-report-in-Run-clause-performed : goal.returns-in_ok-report-in-Run-clause-performed
returns-in_ok-report-in-Run-clause-performed g c =
    let told = g.F.Files.known c.args.files.now in
    rw c.in-Run.is (performs-writes g.F.Files.reads told _ _ _ _ (run c.in-Run.file.now c.in-Run.input) c.in_ok-report-in-Run.report c.write_report.result c.in_ok-report-in-Run.ensures.done (c.write_report.ensures.written told))

pub returns-in_err-report-in-Point-clause-performed : goal.returns-in_err-report-in-Point-clause-performed
returns-in_err-report-in-Point-clause-performed g c =
    let passed = err_from_is_err_and c.from_residual-in_err-report-in-Point.result c.from_residual-in_err-report-in-Point.ensures.1 in
    rw (c.in-Point.is, passed.1, passed.2) (performs-refused g.F.Files.reads (g.F.Files.known c.args.files.now) _ _ _ (point c.in-Point.before.now c.in-Point.after.now c.in-Point.input) writes c.in_err-report-in-Point.field-0.0 c.in_err-report-in-Point.ensures.done)

pub returns-in_ok-report-in-Point-clause-performed : goal.returns-in_ok-report-in-Point-clause-performed
returns-in_ok-report-in-Point-clause-performed g c =
    let told = g.F.Files.known c.args.files.now in
    rw c.in-Point.is (performs-writes g.F.Files.reads told _ _ _ _ (point c.in-Point.before.now c.in-Point.after.now c.in-Point.input) c.in_ok-report-in-Point.report c.write_report-in-Point.result c.in_ok-report-in-Point.ensures.done (c.write_report-in-Point.ensures.written told))

pub returns-in_err-report-in-Slice-clause-performed : goal.returns-in_err-report-in-Slice-clause-performed
returns-in_err-report-in-Slice-clause-performed g c =
    let passed = err_from_is_err_and c.from_residual-in_err-report-in-Slice.result c.from_residual-in_err-report-in-Slice.ensures.1 in
    rw (c.in-Slice.is, passed.1, passed.2) (performs-refused g.F.Files.reads (g.F.Files.known c.args.files.now) _ _ _ (slice c.in-Slice.file.now c.in-Slice.input) writes c.in_err-report-in-Slice.field-0.0 c.in_err-report-in-Slice.ensures.done)

pub returns-in_ok-report-in-Slice-clause-performed : goal.returns-in_ok-report-in-Slice-clause-performed
returns-in_ok-report-in-Slice-clause-performed g c =
    let told = g.F.Files.known c.args.files.now in
    rw c.in-Slice.is (performs-writes g.F.Files.reads told _ _ _ _ (slice c.in-Slice.file.now c.in-Slice.input) c.in_ok-report-in-Slice.report c.write_report-in-Slice.result c.in_ok-report-in-Slice.ensures.done (c.write_report-in-Slice.ensures.written told))

pub returns-in-Live-clause-performed : goal.returns-in-Live-clause-performed
returns-in-Live-clause-performed g c = rw c.in-Live.is (performs-nothing g.F.Files.reads (g.F.Files.known c.args.files.now) _ _ not_built (Err Later) (refl, refl))

pub returns-in-Resume-clause-performed : goal.returns-in-Resume-clause-performed
returns-in-Resume-clause-performed g c = rw c.in-Resume.is (performs-nothing g.F.Files.reads (g.F.Files.known c.args.files.now) _ _ not_built (Err Later) (refl, refl))

pub returns-in-Check-clause-performed : goal.returns-in-Check-clause-performed
returns-in-Check-clause-performed g c = rw c.in-Check.is (performs-nothing g.F.Files.reads (g.F.Files.known c.args.files.now) _ _ not_built (Err Later) (refl, refl))

-- the settings of an exploration
abbrev settings_of : ℕ → Plan → ℕ → Option (List ℕ) → Settings
settings_of turns plan workers journal = record { turns = turns; lines = plan.lines; settlements = plan.settlements; workers = workers; journal = journal }

pub returns-then-not-is_plain-clause-performed : goal.returns-then-not-is_plain-clause-performed
returns-then-not-is_plain-clause-performed g c =
    let e = c.in-Explore in
    let settings = settings_of e.turns e.plan e.workers (option_copied e.journal) in
    rw e.is (performs-later g.F.Files.reads (g.F.Files.known c.args.files.now) _ _ (is_plain settings) (explore e.before.now e.after.now settings >>= writes) (sym c.is_plain.ensures ∙ c.if-not-is_plain.true))

pub returns-in_err-report-in-Explore-clause-performed : goal.returns-in_err-report-in-Explore-clause-performed
returns-in_err-report-in-Explore-clause-performed g c =
    let passed = err_from_is_err_and c.from_residual-in_err-report-in-Explore.result c.from_residual-in_err-report-in-Explore.ensures.1 in
    let reads = g.F.Files.reads in
    let told = g.F.Files.known c.args.files.now in
    let e = c.in-Explore in
    let why = c.in_err-report-in-Explore.field-0.0 in
    let settings = settings_of e.turns e.plan e.workers (option_copied e.journal) in
    let done = subst (λ (p : explored.Plan). Follows reads told c.args.files.now c.explore_files.new.files (explore_with e.turns p e.before.now e.after.now) (Err why)) c.plan_of.ensures c.in_err-report-in-Explore.ensures.done in
    rw (e.is, passed.1, passed.2) (performs-plain reads told _ _ _ _ (is_plain settings) (explore e.before.now e.after.now settings >>= writes) (Err why) (sym c.is_plain.ensures ∙ c.if-not-is_plain.false)
    (performs-refused reads told _ _ _ (explore e.before.now e.after.now settings) writes why done))

pub returns-in_ok-report-in-Explore-clause-performed : goal.returns-in_ok-report-in-Explore-clause-performed
returns-in_ok-report-in-Explore-clause-performed g c =
    let reads = g.F.Files.reads in
    let told = g.F.Files.known c.args.files.now in
    let e = c.in-Explore in
    let report = c.in_ok-report-in-Explore.report in
    let settings = settings_of e.turns e.plan e.workers (option_copied e.journal) in
    let done = subst (λ (p : explored.Plan). Follows reads told c.args.files.now c.explore_files.new.files (explore_with e.turns p e.before.now e.after.now) (Ok report)) c.plan_of.ensures c.in_ok-report-in-Explore.ensures.done in
    rw e.is (performs-plain reads told _ _ _ _ (is_plain settings) (explore e.before.now e.after.now settings >>= writes) c.write_report-in-Explore.result (sym c.is_plain.ensures ∙ c.if-not-is_plain.false)
    (performs-writes reads told _ _ _ _ (explore e.before.now e.after.now settings) report c.write_report-in-Explore.result done (c.write_report-in-Explore.ensures.written told)))

pub returns-in_err-report-in-Gen-clause-performed : goal.returns-in_err-report-in-Gen-clause-performed
returns-in_err-report-in-Gen-clause-performed g c =
    let passed = err_from_is_err_and c.from_residual-in_err-report-in-Gen.result c.from_residual-in_err-report-in-Gen.ensures.1 in
    let reads = g.F.Files.reads in
    let told = g.F.Files.known c.args.files.now in
    let step = generate c.in-Gen.number c.in-Gen.size in
    let why = c.in_err-report-in-Gen.field-0.0 in
    rw (c.in-Gen.is, passed.1, passed.2) (performs-refused reads told _ _ _ step writes why (follows-nothing reads told _ step (Err why) (c.in_err-report-in-Gen.ensures.done told)))

pub returns-in_ok-report-in-Gen-clause-performed : goal.returns-in_ok-report-in-Gen-clause-performed
returns-in_ok-report-in-Gen-clause-performed g c =
    let reads = g.F.Files.reads in
    let told = g.F.Files.known c.args.files.now in
    let step = generate c.in-Gen.number c.in-Gen.size in
    let report = c.in_ok-report-in-Gen.report in
    rw c.in-Gen.is (performs-writes reads told _ _ _ _ step report c.write_report-in-Gen.result (follows-nothing reads told _ step (Ok report) (c.in_ok-report-in-Gen.ensures.done told)) (c.write_report-in-Gen.ensures.written told))
