use Rattle.std.proofs.Common.{sym, ◌∙◌}
use Rattle.prv_pool.proofs.FoldLemmas.{number-at}
use Rattle.prv_pool.proofs.pool.Pool.number.Goals as goal

pub returns-clause-value : goal.returns-clause-value
returns-clause-value c = c.number.ensures ∙ sym (number-at c.args.self.now.terms c.args.a c.node.result c.node.ensures.value)
