use Rattle.std.proofs.Common.{◌≡◌, min, take}
use Rattle.prv_check.specs.Spending.{log_numbers}
use Rattle.prv_check.proofs.log.numbers_of.Given as goal

abbrev pub invariant-loop-line : goal.invariant-loop-line
invariant-loop-line l = record { counted : l.sum ≡ min (log_numbers (take l.line-index l.lines)) 18446744073709551615 }
