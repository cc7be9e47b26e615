use Rattle.prv_pool.proofs.FoldedLemmas.{settled-is}
use Rattle.prv_pool.proofs.laws.folded_terms_are_fixed.Goals as goal

pub returns : goal.returns
returns c = settled-is
