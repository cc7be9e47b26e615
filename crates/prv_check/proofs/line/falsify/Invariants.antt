use Rattle.std.proofs.Common.{◌≡◌, map, take}
use Rattle.prv_cnf.specs.Literals.{negate}
use Rattle.prv_check.specs.Lines.{no_repeat}
use Rattle.prv_check.proofs.line.falsify.Given as goal

abbrev pub invariant-loop-lit : goal.invariant-loop-lit
invariant-loop-lit l =
    (l.assignment.trail ≡ map negate (take l.lit-index l.lits))
    × (l.once ≡ no_repeat (take l.lit-index l.lits))
    × (l.assignment.vars ≡ l.fn.assignment.vars)
    × (l.assignment.room ≡ l.fn.assignment.room)
