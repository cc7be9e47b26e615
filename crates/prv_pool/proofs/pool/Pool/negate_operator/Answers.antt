use Rattle.std.proofs.Common.{◌≡◌, true, sym, ap, ◌∙◌}
use Rattle.prv_model.specs.declared.op.TermOp.TheVariants.{Eq}
use Rattle.prv_model.specs.declared.term.Term.TheVariants.{Op}
use Rattle.prv_pool.specs.Folding.{is_folded}
use Rattle.prv_pool.specs.Tables.{term_at}
use Rattle.prv_pool.proofs.FoldedLemmas.{negation-Op, negation-other, unequal-of-equation}
use Rattle.prv_pool.proofs.pool.Pool.negate_operator.Goals as goal

pub returns-in-Lt-clause-value : goal.returns-in-Lt-clause-value
returns-in-Lt-clause-value c = rw c.requires.is (rw c.in-Lt.is (sym (negation-Op _ _ _)))

pub returns-in-Le-clause-value : goal.returns-in-Le-clause-value
returns-in-Le-clause-value c = rw c.requires.is (rw c.in-Le.is (sym (negation-Op _ _ _)))

pub returns-in-Eq-clause-value : goal.returns-in-Eq-clause-value
returns-in-Eq-clause-value c =
    let folded : is_folded (Op Eq (term_at c.args.self.now.terms c.args.x) (term_at c.args.self.now.terms c.args.y)) ≡ true =
    (λ i. is_folded (Op (sym c.in-Eq.is i) (term_at c.args.self.now.terms c.args.x) (term_at c.args.self.now.terms c.args.y))) ∙ ap is_folded (sym c.requires.is) ∙ c.requires.table.all_folded c.args.a c.requires.node in
    rw c.requires.is (rw c.in-Eq.is (c.unequal_in_order.ensures.value ∙ sym (unequal-of-equation _ _ folded) ∙ sym (negation-Op _ _ _)))

pub returns-in-Ne-clause-value : goal.returns-in-Ne-clause-value
returns-in-Ne-clause-value c = rw c.requires.is (rw c.in-Ne.is (sym (negation-Op _ _ _)))

pub returns-in_default-clause-value : goal.returns-in_default-clause-value
returns-in_default-clause-value c =
    rw c.requires.is (sym (negation-other c.args.op _ _ c.in_default.not-Lt c.in_default.not-Le c.in_default.not-Eq c.in_default.not-Ne))
