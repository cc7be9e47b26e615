use Rattle.prv_region.proofs.ValueLemmas.{none-holds}
use Rattle.prv_region.proofs.region.Region.holds.Goals as goal

pub returns-clause-value : goal.returns-clause-value
returns-clause-value c = none-holds _ _ _ _ c.is_none.ensures c.first_zero.ensures.place
