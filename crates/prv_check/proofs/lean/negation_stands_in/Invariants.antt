use Rattle.std.proofs.Common.{◌≡◌, false, take}
use Rattle.prv_cnf.specs.Literals.{negate}
use Rattle.prv_check.specs.Lines.{known, clauses_at}
use Rattle.prv_check.specs.Freshness.{stands_in}
use Rattle.prv_check.proofs.lean.negation_stands_in.Given as goal

abbrev pub invariant-loop-hint : goal.invariant-loop-hint
invariant-loop-hint l = stands_in (clauses_at (known l.cnf l.earlier) (take l.hint-index l.hints)) (negate l.lit) ≡ false
