use Rattle.std.proofs.Common.{sym, ◌∙◌}
use Rattle.prv_pool.specs.Tables.{term_at}
use Rattle.prv_pool.proofs.FoldedLemmas.{truth-of-number, truth-of-other}
use Rattle.prv_pool.proofs.pool.Pool.fold_truth.Goals as goal

pub returns-in-Some-clause-value : goal.returns-in-Some-clause-value
returns-in-Some-clause-value c =
    sym (truth-of-number (term_at c.args.self.now.terms c.args.a) c.in-Some.field-0 (sym c.number.ensures.value ∙ c.in-Some.is) (sym c.is_truth.ensures.value ∙ c.if-is_truth.false))

pub returns-in-None-clause-value : goal.returns-in-None-clause-value
returns-in-None-clause-value c =
    sym (truth-of-other (term_at c.args.self.now.terms c.args.a) (sym c.number.ensures.value ∙ c.in-None.is) (sym c.is_truth.ensures.value ∙ c.if-is_truth.false))
