use Rattle.std.proofs.Common.{◌≡◌, true, take}
use Rattle.std.specs.List.{list_all}
use Rattle.prv_cnf.specs.Literals.{same_literal}
use Rattle.prv_propagate.proofs.loading.other_than.Given as goal

abbrev pub invariant-loop-lit : goal.invariant-loop-lit
invariant-loop-lit l = list_all (same_literal l.first) (take l.lit-index l.lits) ≡ true
