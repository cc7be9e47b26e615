use Rattle.std.proofs.Common.{◌∙◌, ap}
use Rattle.prv_model.specs.declared.expr.Expr.{Expr}
use Rattle.prv_dep.specs.Dependences.{vars}
use Rattle.prv_dep.specs.Tables.{mask}
use Rattle.prv_dep.proofs.MaskLaws.{mask-Var, mask-Bin, mask-Pick}
use Rattle.prv_dep.proofs.expressions.+vars.Goals as goal

pub returns-in-Var : goal.returns-in-Var
returns-in-Var t c = mask-Var c.args.expr.now c.in-Var.v _ c.in-Var.is c.bit.ensures

pub returns-in-Bin : goal.returns-in-Bin
returns-in-Bin t c =
    mask-Bin c.args.expr.now c.in-Bin.field-0 c.in-Bin.a c.in-Bin.b _ _ c.in-Bin.is
    (c.vars-in-Bin.ensures ∙ ap (λ (e : Expr). mask (vars e)) c.get-in-Bin.ensures) (c.vars-in-Bin-2.ensures ∙ ap (λ (e : Expr). mask (vars e)) c.get-in-Bin-2.ensures)

pub returns-in-Pick : goal.returns-in-Pick
returns-in-Pick t c =
    mask-Pick c.args.expr.now c.in-Pick.test c.in-Pick.chosen c.in-Pick.other _ _ _ c.in-Pick.is
    (c.vars-in-Pick.ensures ∙ ap (λ (e : Expr). mask (vars e)) c.get-in-Pick.ensures) (c.vars-in-Pick-2.ensures ∙ ap (λ (e : Expr). mask (vars e)) c.get-in-Pick-2.ensures)
    (c.vars-in-Pick-3.ensures ∙ ap (λ (e : Expr). mask (vars e)) c.get-in-Pick-3.ensures)
