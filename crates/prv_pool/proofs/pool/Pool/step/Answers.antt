use Rattle.std.proofs.Common.{sym, subst}
use Rattle.prv_pool.specs.Steps.{Decides}
use Rattle.prv_pool.specs.declared.compare.Step.{Step}
use Rattle.prv_pool.proofs.FoldLemmas.{decides-step}
use Rattle.prv_pool.proofs.pool.Pool.step.Goals as goal

pub returns : goal.returns
returns c =
    subst (λ (s : Step). Decides c.args.self.now.terms c.args.a c.args.b s) (sym c.step_between.ensures)
    (decides-step c.args.self.now.terms c.args.a c.args.b c.node.result c.node-2.result c.node.ensures.table.distinct c.requires.first c.requires.second c.node.ensures.value c.node-2.ensures.value c.node.ensures.before c.node-2.ensures.before)
