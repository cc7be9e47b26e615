use Rattle.std.proofs.Common.{ℕ, ◌+◌, ◌<◌, ◌≤◌, length, get_or}
use Rattle.prv_check.specs.LogLines.{LogLine}
use Rattle.prv_check.proofs.checker.longest.Given as goal

abbrev pub invariant-loop-line : goal.invariant-loop-line
invariant-loop-line l =
    (k : ℕ) (d : LogLine) → k < l.line-index → length (get_or l.lines k d).clause + length (get_or l.lines k d).hints ≤ l.most
