use Rattle.std.proofs.Common.{◌≡◌, ◌+◌, length}
use Rattle.prv_check.specs.Propagation.{hints_fault, trail_after}
use Rattle.prv_check.specs.Lines.{known, clauses_at}
use Rattle.prv_check.proofs.Propagating.{left_at}
use Rattle.prv_check.proofs.propagate.propagate.Given as goal

abbrev pub invariant-loop-hint : goal.invariant-loop-hint
invariant-loop-hint l =
    (hints_fault l.fn.assignment.trail (clauses_at (known l.cnf l.earlier) l.hints) ≡ hints_fault l.assignment.trail (clauses_at (known l.cnf l.earlier) (left_at l.others l.last l.hint-index)))
    × (trail_after l.fn.assignment.trail (clauses_at (known l.cnf l.earlier) l.hints) ≡ trail_after l.assignment.trail (clauses_at (known l.cnf l.earlier) (left_at l.others l.last l.hint-index)))
    × (length l.assignment.trail ≡ length l.fn.assignment.trail + l.hint-index)
    × (l.assignment.vars ≡ l.fn.assignment.vars)
    × (l.assignment.room ≡ l.fn.assignment.room)
