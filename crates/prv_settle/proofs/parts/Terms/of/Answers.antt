use Rattle.std.proofs.Common.{◌<◌, length, Err, ap, ◌∙◌, subst, arith}
use Rattle.prv_pool.specs.Tables.{Table, add_terms}
use Rattle.prv_settle.proofs.Rooms.{region-fits}
use Rattle.prv_settle.proofs.parts.Terms.of.Goals as goal

pub unreachable-requires : goal.unreachable-requires
unreachable-requires c =
    let wide = c.copy_into.ensures.wide (c.in-Err-Wide.is ∙ ap Err c.in-Err-Wide.field-0-is) in
    let more = subst (λ (table : Table). table.max_nodes < length (add_terms table.terms c.args.region.now)) c.new-pool.ensures wide in
    let fits = region-fits c.parts.result.pool.now c.parts.result.roots.now c.args.region.now c.parts.ensures.table c.parts.ensures.within c.parts.ensures.few c.parts.ensures.value in
    omega (arith, more, fits)
