use Rattle.std.proofs.Common.{◌≡◌, true, take}
use Rattle.prv_propagate.specs.Trails.{trues}
use Rattle.prv_propagate.specs.Reasons.{is_falsified}
use Rattle.prv_sat.proofs.search.first_open.Given as goal

abbrev pub invariant-loop-lit : goal.invariant-loop-lit
invariant-loop-lit l = is_falsified (trues l.trail.steps) (take l.lit-index l.lits) ≡ true
