use Rattle.std.proofs.Common.{◌≡◌}
use Rattle.prv_cnf.specs.Models.{values_of}
use Rattle.prv_blast.specs.Inputs.{input_at}
use Rattle.prv_blast.proofs.formula.Blasted.input_of.Given as goal

abbrev pub invariant-loop-k : goal.invariant-loop-k
invariant-loop-k l = l.input ≡ input_at l.k (values_of l.values)
