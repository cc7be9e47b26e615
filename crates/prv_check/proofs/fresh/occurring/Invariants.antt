use Rattle.std.proofs.Common.{◌≡◌, ℕ, ◌+◌, ◌*◌, ◌<◌, length, get_or}
use Rattle.prv_check.specs.LogLines.{LogLine}
use Rattle.prv_check.specs.Inner.Tables.{AreFlagged}
use Rattle.prv_check.proofs.fresh.occurring.Given as goal

abbrev pub invariant-loop-line : goal.invariant-loop-line
invariant-loop-line l =
    (length l.occurs ≡ 2 * l.cnf.vars + 1)
    × ((k : ℕ) (d : LogLine) → k < l.line-index → AreFlagged l.occurs (get_or l.lines k d).clause)
