use Rattle.std.proofs.Common.{◌≡◌, true, take}
use Rattle.std.specs.List.{list_all}
use Rattle.prv_check.specs.Propagation.{is_false}
use Rattle.prv_check.proofs.propagate.all_false.Given as goal

abbrev pub invariant-loop-lit : goal.invariant-loop-lit
invariant-loop-lit l = list_all (is_false l.trail) (take l.lit-index l.lits) ≡ true
