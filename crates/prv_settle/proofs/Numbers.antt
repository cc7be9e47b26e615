-- The numbers of a log, line by line.
use Rattle.std.proofs.Common.{◌≤◌, List, [], ◌∷◌, length, arith}
use Rattle.prv_check.specs.LogLines.{LogLine}
use Rattle.prv_check.specs.Spending.{log_numbers}

-- a log has at most as many lines as numbers
pub lines-numbers : (log : List LogLine) → length log ≤ log_numbers log
lines-numbers [] = omega arith
lines-numbers (s ∷ log) = let rest = lines-numbers log in omega (arith, rest)
