use Rattle.std.proofs.Common.{◌≡◌, map}
use Rattle.std.specs.List.{range_with_len}
use Rattle.prv_cnf.specs.Models.{values_of}
use Rattle.prv_bits.specs.Numbers.{number}
use Rattle.prv_blast.proofs.formula.word_at.Given as goal

abbrev pub invariant-loop-i : goal.invariant-loop-i
invariant-loop-i l = l.number ≡ number (map (values_of l.values) (range_with_len l.first l.i))
