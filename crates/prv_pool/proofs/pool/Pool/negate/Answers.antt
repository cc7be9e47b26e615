use Rattle.std.proofs.Common.{sym}
use Rattle.prv_pool.proofs.NodeLemmas.{term_at-some}
use Rattle.prv_pool.proofs.FoldedLemmas.{negation-Param, negation-Pick, negation-tested}
use Rattle.prv_pool.proofs.pool.Pool.negate.Goals as goal

pub returns-in-Some-clause-value : goal.returns-in-Some-clause-value
returns-in-Some-clause-value c =
    let ts = c.args.self.now.terms in
    negation-tested ts c.node-node.result _ _ (term_at-some ts c.args.a _ c.node-node.ensures.value) c.in-Some.ensures

pub returns-in-Param-clause-value : goal.returns-in-Param-clause-value
returns-in-Param-clause-value c = rw (term_at-some c.args.self.now.terms c.args.a _ c.in-Param.ensures.value) (sym (negation-Param _))

pub returns-in-Pick-clause-value : goal.returns-in-Pick-clause-value
returns-in-Pick-clause-value c = rw (term_at-some c.args.self.now.terms c.args.a _ c.in-Pick.ensures.value) (sym (negation-Pick _ _ _))
