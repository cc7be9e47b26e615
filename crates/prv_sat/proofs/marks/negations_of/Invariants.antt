use Rattle.std.proofs.Common.{◌≡◌, map, take}
use Rattle.prv_cnf.specs.Literals.{negate}
use Rattle.prv_sat.specs.Marking.{marked_of}
use Rattle.prv_sat.proofs.marks.negations_of.Given as goal

abbrev pub invariant-loop-lit : goal.invariant-loop-lit
invariant-loop-lit l = l.lits.items ≡ map negate (marked_of l.table (take l.lit-index l.touched))
