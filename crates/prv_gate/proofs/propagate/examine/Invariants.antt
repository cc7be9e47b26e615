use Rattle.std.proofs.Common.{◌≡◌, drop, None}
use Rattle.prv_gate.specs.Examining.{examined}
use Rattle.prv_gate.proofs.propagate.examine.Given as goal

abbrev pub invariant-loop-lit : goal.invariant-loop-lit
invariant-loop-lit l = examined l.known None l.lits ≡ examined l.known l.found (drop l.lit-index l.lits)
