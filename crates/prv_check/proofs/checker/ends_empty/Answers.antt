use Rattle.std.proofs.Common.{List, ap, sym, ◌∙◌}
use Rattle.prv_cnf.specs.declared.literal.Lit.{Lit}
use Rattle.prv_check.specs.Lines.{is_empty}
use Rattle.prv_check.proofs.Ending.{ends_by_last, nothing_empty}
use Rattle.prv_check.proofs.checker.ends_empty.Goals as goal

pub returns-in-Some : goal.returns-in-Some
returns-in-Some c =
    c.is_empty.ensures
    ∙ sym (nothing_empty c.lits.result.now)
    ∙ ap (λ (x : List Lit). is_empty x) (c.lits.ensures ∙ c.clause.ensures)
    ∙ sym (ends_by_last c.args.lines.now c.in-Some.line.now (sym c.in-Some.ensures.value))
