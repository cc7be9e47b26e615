use Rattle.std.proofs.Common.{◌≡◌, ℕ, ◌<◌, [], None}
use Rattle.prv_check.specs.Lines.{line_fault}
use Rattle.prv_check.specs.Logs.{fault_at}
use Rattle.prv_check.proofs.checker.check_lines.Given as goal

abbrev pub invariant-loop-at : goal.invariant-loop-at
invariant-loop-at l =
    ((j : ℕ) → j < l.at → fault_at (line_fault l.cnf) l.lines j ≡ None)
    × (l.assignment.trail ≡ [])
    × (l.assignment.vars ≡ l.fn.assignment.vars)
    × (l.assignment.room ≡ l.fn.assignment.room)
