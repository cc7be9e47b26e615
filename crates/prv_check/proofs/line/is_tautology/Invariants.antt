use Rattle.std.proofs.Common.{◌≡◌, false, take}
use Rattle.std.specs.List.{list_any}
use Rattle.prv_cnf.specs.Literals.{has_literal}
use Rattle.prv_check.proofs.line.is_tautology.Given as goal

abbrev pub invariant-loop-lit : goal.invariant-loop-lit
invariant-loop-lit l = list_any (has_literal l.assignment.trail) (take l.lit-index l.lits) ≡ false
