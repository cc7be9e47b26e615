use Rattle.prv_region.proofs.PairLemmas.{operands-none, operands-some, partner-at}
use Rattle.prv_region.proofs.same.pair_operands.Goals as goal

pub node-requires-in-Some : goal.node-requires-in-Some
node-requires-in-Some c = c.requires.within.at c.args.n c.in-Some.m (partner-at c.args.partners.now c.args.n _ c.in-Some.is)

pub returns-in-None : goal.returns-in-None
returns-in-None c = operands-none c.args.into.now.terms c.args.from.now.terms c.args.partners.now c.args.n (partner-at c.args.partners.now c.args.n _ c.in-None.is) c.requires.within

pub returns-in-Some : goal.returns-in-Some
returns-in-Some c =
    operands-some c.args.into.now.terms c.args.from.now.terms c.args.partners.now c.pair_nodes.new.partners c.args.n c.in-Some.m c.node.result c.node-in-Some.result c.pair_nodes.result (partner-at c.args.partners.now c.args.n _ c.in-Some.is)
    c.node.ensures.value c.node.ensures.before c.node-in-Some.ensures.value c.node-in-Some.ensures.before c.requires.within c.pair_nodes.ensures
