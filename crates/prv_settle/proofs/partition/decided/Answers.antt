use Rattle.prv_pool.proofs.MakeLemmas.{makes-known}
use Rattle.prv_settle.proofs.partition.decided.Goals as goal

pub returns-then-agree-clause-makes : goal.returns-then-agree-clause-makes
returns-then-agree-clause-makes c = rw c.if-agree.true (makes-known _ _ c.len.ensures.table.within c.requires.equality)
