use Rattle.std.proofs.Common.{◌≡◌, ◌-◌, ◌++◌, replicate, pos}
use Rattle.prv_cnf.specs.Models.{values_of}
use Rattle.prv_blast.specs.Inputs.{input_at}
use Rattle.prv_settle.proofs.search.input_of.Given as goal

abbrev pub invariant-loop : goal.invariant-loop
invariant-loop l = l.input ≡ input_at l.blasted.params (values_of l.values) ++ replicate (l.counter - l.blasted.params) (pos 0)
