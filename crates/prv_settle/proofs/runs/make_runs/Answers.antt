use Rattle.std.proofs.Common.{Ok, Err}
use Rattle.std.proofs.lemmas.Result.{err_from_is_err_and}
use Rattle.prv_sym.proofs.Naming.{answered, refused}
use Rattle.prv_part.specs.Literals.{slice_before, slice_after}
use Rattle.prv_settle.proofs.Running.{copy-names, region-refused, before-refused, third-refused, all-named, runs-made, slice-on}
use Rattle.prv_settle.proofs.runs.make_runs.Goals as goal

pub returns-in_err-region-clause-names : goal.returns-in_err-region-clause-names
returns-in_err-region-clause-names c =
    let p = err_from_is_err_and c.from_residual.result c.from_residual.ensures.1 in
    let one = c.in_err-region.ensures in
    rw (p.1, p.2) (region-refused c.args.pair.now c.args.region.now c.args.input.now _ _ _ (copy-names c.args.region.now c.args.pool.now c.copy_into.new.pool (Err c.in_err-region.field-0.0) one.grows one.limit one.refused one.wide))

pub returns-in_err-before-clause-names : goal.returns-in_err-before-clause-names
returns-in_err-before-clause-names c =
    let p = err_from_is_err_and c.from_residual-in_err-before.result c.from_residual-in_err-before.ensures.1 in
    let one = c.in_ok-region.ensures in
    rw (p.1, p.2)
    (before-refused c.args.pair.now c.args.region.now c.args.input.now _ _ _ _ _ (copy-names c.args.region.now c.args.pool.now c.copy_into.new.pool (Ok c.in_ok-region.region) one.grows one.limit one.refused one.wide) c.in_err-before.ensures.names)

pub returns-in_err-after-clause-names : goal.returns-in_err-after-clause-names
returns-in_err-after-clause-names c =
    let p = err_from_is_err_and c.from_residual-in_err-after.result c.from_residual-in_err-after.ensures.1 in
    let one = c.in_ok-region.ensures in
    rw (p.1, p.2)
    (third-refused c.args.region.now _ _ _ _ _ _ _ _ _ _ (copy-names c.args.region.now c.args.pool.now c.copy_into.new.pool (Ok c.in_ok-region.region) one.grows one.limit one.refused one.wide) c.in_ok-before.ensures.names c.in_err-after.ensures.names)

pub equality-requires : goal.equality-requires
equality-requires c = (
  slice_before c.args.pair.now c.args.input.now,
  slice_after c.args.pair.now c.args.input.now,
  slice-on _ _ c.in_ok-before.before (slice_before c.args.pair.now c.args.input.now) c.in_ok-after.ensures.names.kept c.in_ok-before.ensures.slice,
  c.in_ok-after.ensures.slice,
)

pub returns-in_err-equality-clause-names : goal.returns-in_err-equality-clause-names
returns-in_err-equality-clause-names c =
    let p = err_from_is_err_and c.from_residual-in_err-equality.result c.from_residual-in_err-equality.ensures.1 in
    let one = c.in_ok-region.ensures in
    let before = slice-on _ _ c.in_ok-before.before (slice_before c.args.pair.now c.args.input.now) c.in_ok-after.ensures.names.kept c.in_ok-before.ensures.slice in
    rw (p.1, p.2)
    (all-named c.args.region.now _ _ _ _ _ _ _ _ _ _ _ _ (copy-names c.args.region.now c.args.pool.now c.copy_into.new.pool (Ok c.in_ok-region.region) one.grows one.limit one.refused one.wide) c.in_ok-before.ensures.names c.in_ok-after.ensures.names
    (refused _ _ _ _ (c.in_err-equality.ensures.names (slice_before c.args.pair.now c.args.input.now) (slice_after c.args.pair.now c.args.input.now) before c.in_ok-after.ensures.slice)))

pub returns-clause-runs : goal.returns-clause-runs
returns-clause-runs c =
    let before = slice-on _ _ c.in_ok-before.before (slice_before c.args.pair.now c.args.input.now) c.in_ok-after.ensures.names.kept c.in_ok-before.ensures.slice in
    let names = c.in_ok-equality.ensures.names (slice_before c.args.pair.now c.args.input.now) (slice_after c.args.pair.now c.args.input.now) before c.in_ok-after.ensures.slice in
    runs-made c.args.pair.now c.args.region.now c.args.input.now c.copy_into.new.pool.terms c.slice_at.new.pool.terms c.slice_at-2.new.pool.terms c.equality.new.pool
    (record { region = c.in_ok-region.region; before = c.in_ok-before.before; after = c.in_ok-after.after; equality = c.in_ok-equality.equality })
    c.in_ok-before.ensures.names.kept c.in_ok-after.ensures.names.kept names.kept c.in_ok-region.ensures.within c.in_ok-region.ensures.stands c.in_ok-before.ensures.slice c.in_ok-after.ensures.slice
    (c.in_ok-equality.ensures.stands (slice_before c.args.pair.now c.args.input.now) (slice_after c.args.pair.now c.args.input.now) before c.in_ok-after.ensures.slice) c.in_ok-before.ensures.outcome c.in_ok-after.ensures.outcome

pub returns-clause-names : goal.returns-clause-names
returns-clause-names c =
    let one = c.in_ok-region.ensures in
    let before = slice-on _ _ c.in_ok-before.before (slice_before c.args.pair.now c.args.input.now) c.in_ok-after.ensures.names.kept c.in_ok-before.ensures.slice in
    all-named c.args.region.now _ _ _ _ _ _ _ _ _ _ _ _ (copy-names c.args.region.now c.args.pool.now c.copy_into.new.pool (Ok c.in_ok-region.region) one.grows one.limit one.refused one.wide) c.in_ok-before.ensures.names c.in_ok-after.ensures.names
    (answered _ _ _ _ _ (c.in_ok-equality.ensures.names (slice_before c.args.pair.now c.args.input.now) (slice_after c.args.pair.now c.args.input.now) before c.in_ok-after.ensures.slice))
