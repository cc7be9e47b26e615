use Rattle.prv_region.proofs.PairLemmas.{pairs-old, pairs-new, partner-at}
use Rattle.prv_region.proofs.same.pair.Goals as goal

pub returns-in-Some : goal.returns-in-Some
returns-in-Some c = pairs-old c.args.partners.now c.args.n c.args.m c.in-Some.k (partner-at c.args.partners.now c.args.n _ c.in-Some.is)

pub returns-in-None : goal.returns-in-None
returns-in-None c = pairs-new c.args.partners.now c.args.n c.args.m c.requires (partner-at c.args.partners.now c.args.n _ c.in-None.is)
