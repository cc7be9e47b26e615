use Rattle.std.proofs.Common.{◌≡◌, Option, None, ap, sym, ◌∙◌, unwrap_or, slice_get}
use Rattle.prv_model.specs.declared.stmt.Stmt.TheVariants.{Skip}
use Rattle.prv_dep.specs.declared.writes.Row.{Row}
use Rattle.prv_dep.specs.Tables.{row}
use Rattle.prv_select.proofs.Steps.{row-Skip}
use Rattle.prv_select.proofs.walk.row.Goals as goal

pub returns-in-None : goal.returns-in-None
returns-in-None c =
    let none : slice_get c.args.rows.now c.args.stmt ≡ None = sym c.at.ensures ∙ sym c.copied.ensures ∙ c.in-None.is in
    row-Skip ∙ ap (λ (o : Option Row). unwrap_or o (row Skip)) (sym none)
