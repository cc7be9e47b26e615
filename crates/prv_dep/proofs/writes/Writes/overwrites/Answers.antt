use Rattle.std.proofs.Common.{ap, ◌∙◌}
use Rattle.prv_dep.specs.declared.writes.Row.{Row}
use Rattle.prv_dep.specs.Dependences.{overwrites}
use Rattle.prv_dep.specs.Tables.{has_bit, statement}
use Rattle.prv_dep.proofs.MaskLaws.{mask-has}
use Rattle.prv_dep.proofs.RowLaws.{row-of}
use Rattle.prv_dep.proofs.writes.Writes.overwrites.Goals as goal

pub returns : goal.returns
returns c = λ p is.
    c.has_bit.ensures ∙ ap (λ (r : Row). has_bit r.overwrites c.args.var) (c.row.ensures ∙ row-of p _ c.args.stmt is) ∙ mask-has (overwrites (statement p c.args.stmt)) c.args.var c.requires.variable
