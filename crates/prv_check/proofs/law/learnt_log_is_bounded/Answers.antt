use Rattle.prv_check.proofs.Bounding.{bounded_learnt}
use Rattle.prv_check.proofs.law.learnt_log_is_bounded.Goals as goal

pub returns : goal.returns
returns c = bounded_learnt
