use Rattle.std.proofs.Common.{sym, ◌∙◌}
use Rattle.prv_pool.proofs.FoldLemmas.{comparison-at}
use Rattle.prv_pool.proofs.pool.Pool.is_comparison.Goals as goal

pub returns : goal.returns
returns c = c.is_comparison.ensures ∙ sym (comparison-at c.args.self.now.terms c.args.a c.node.result c.node.ensures.value)
