use Rattle.std.proofs.Common.{[], ◌∷◌}
use Rattle.prv_model.specs.declared.term.Term.TheVariants.{Op}
use Rattle.prv_pool.specs.Folding.{first_of, beside_neutral, beside_decided, on_one_twice, on_truths, beside_zero, negation}
use Rattle.prv_pool.specs.Tables.{term_at}
use Rattle.prv_pool.proofs.FoldedLemmas.{first-some, third-some}
use Rattle.prv_pool.proofs.pool.Pool.in_order.Goals as goal

pub returns-in-Some-clause-value : goal.returns-in-Some-clause-value
returns-in-Some-clause-value c =
    let a = term_at c.args.self.now.terms c.args.a in
    let b = term_at c.args.self.now.terms c.args.b in
    first-some (beside_neutral c.args.op a b) (beside_decided c.args.op b) _ (first_of (on_one_twice c.args.op a b ∷ on_truths negation c.args.op a b ∷ beside_zero negation c.args.op a b ∷ []) (Op c.args.op a b)) c.in-Some.ensures.value

pub returns-in-Some-on_one_twice-clause-value : goal.returns-in-Some-on_one_twice-clause-value
returns-in-Some-on_one_twice-clause-value c =
    let a = term_at c.args.self.now.terms c.args.a in
    let b = term_at c.args.self.now.terms c.args.b in
    third-some (beside_neutral c.args.op a b) (beside_decided c.args.op b) (on_one_twice c.args.op a b) _ (first_of (on_truths negation c.args.op a b ∷ beside_zero negation c.args.op a b ∷ []) (Op c.args.op a b)) c.in_default.ensures.value c.in-Some-on_one_twice.ensures.value
