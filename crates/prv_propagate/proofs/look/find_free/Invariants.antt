use Rattle.std.proofs.Common.{◌≡◌, true, take}
use Rattle.prv_propagate.specs.Trails.{trues}
use Rattle.prv_propagate.specs.Reasons.{are_others_false}
use Rattle.prv_propagate.proofs.look.find_free.Given as goal

abbrev pub invariant-loop-lit : goal.invariant-loop-lit
invariant-loop-lit l = are_others_false (trues l.trail.steps) (take l.lit-index l.lits) l.other ≡ true
