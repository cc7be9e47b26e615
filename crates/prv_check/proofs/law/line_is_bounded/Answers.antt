use Rattle.prv_check.proofs.Bounding.{bounded_line, bounded_numbers}
use Rattle.prv_check.proofs.law.line_is_bounded.Goals as goal

pub returns : goal.returns
returns c = record { bounded = bounded_line; numbers = bounded_numbers }
