use Rattle.prv_check.proofs.Bounding.{bounded_accepted, accepted_numbers}
use Rattle.prv_check.proofs.law.accepted_log_is_bounded.Goals as goal

pub returns : goal.returns
returns c = record { bounded = bounded_accepted; numbers = accepted_numbers }
