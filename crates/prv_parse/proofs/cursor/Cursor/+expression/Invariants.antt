use Rattle.std.proofs.Common.{◌≡◌, ◌+◌, ◌-◌, ◌*◌}
use Rattle.prv_parse.specs.Reader.{readers, precedence_of, tail}
use Rattle.prv_parse.specs.Cursors.{left, read_of}
use Rattle.prv_parse.proofs.cursor.Cursor.+expression.Given as goal

abbrev pub decreases-choice : goal.decreases-choice
decreases-choice l = l.room * 64 + 1

abbrev pub decreases-expression : goal.decreases-expression
decreases-expression l = l.room * 64 + 35

abbrev pub decreases-operand : goal.decreases-operand
decreases-operand l = l.room * 64 + 2

abbrev pub decreases-symbol_operand : goal.decreases-symbol_operand
decreases-symbol_operand l = l.room * 64 + 1

abbrev pub decreases-tail : goal.decreases-tail
decreases-tail l = l.room * 64 + (l.precedence * 3 + 3)

abbrev pub decreases-precedence : goal.decreases-precedence
decreases-precedence l = l.room * 64 + (l.precedence * 3 + 4)

abbrev pub invariant-tail-loop-count : goal.invariant-tail-loop-count
invariant-tail-loop-count l =
    (l.self.tokens.now ≡ l.initial.self.tokens.now)
    × (tail l.precedence (precedence_of (l.precedence - 1) (readers l.room).operand) 257 (read_of l.initial.left) (left l.initial.self)
    ≡ tail l.precedence (precedence_of (l.precedence - 1) (readers l.room).operand) (257 - l.count) (read_of l.left) (left l.self))

abbrev pub decreases-joined : goal.decreases-joined
decreases-joined l = l.room * 64 + (l.precedence * 3 + 2)
