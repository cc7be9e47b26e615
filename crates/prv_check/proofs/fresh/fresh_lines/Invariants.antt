use Rattle.std.proofs.Common.{◌≡◌, ℕ, ◌+◌, ◌*◌, ◌<◌, [], None, length, take}
use Rattle.prv_check.specs.Lines.{known}
use Rattle.prv_check.specs.Logs.{fault_at}
use Rattle.prv_check.specs.Inner.Indexing.{IsIndex}
use Rattle.prv_check.specs.Freshness.{fresh_fault}
use Rattle.prv_check.proofs.fresh.fresh_lines.Given as goal

abbrev pub invariant-loop-at : goal.invariant-loop-at
invariant-loop-at l =
    ((j : ℕ) → j < l.at → fault_at (fresh_fault l.cnf) l.lines j ≡ None)
    × IsIndex (known l.cnf (take l.at l.lines)) l.index
    × (l.index.occurs ≡ l.fn.index.occurs)
    × (l.assignment.trail ≡ [])
    × (l.assignment.vars ≡ l.fn.assignment.vars)
    × (l.assignment.room ≡ l.fn.assignment.room)
    × (length l.seen ≡ 2 * l.cnf.vars + 1)
