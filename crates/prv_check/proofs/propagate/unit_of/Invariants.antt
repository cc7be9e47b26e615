use Rattle.std.proofs.Common.{take}
use Rattle.prv_check.specs.Propagation.{unfalsified}
use Rattle.prv_check.proofs.Propagating.{IsSole}
use Rattle.prv_check.proofs.propagate.unit_of.Given as goal

abbrev pub invariant-loop-lit : goal.invariant-loop-lit
invariant-loop-lit l = IsSole l.found (unfalsified l.trail (take l.lit-index l.lits))
