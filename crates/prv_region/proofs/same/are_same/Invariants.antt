use Rattle.std.proofs.Common.{◌≤◌, length}
use Rattle.prv_region.proofs.PairLemmas.{AreFrom}
use Rattle.prv_region.proofs.same.are_same.Given as goal

abbrev pub invariant-loop-n : goal.invariant-loop-n
invariant-loop-n l = record {
  within : l.n ≤ length l.fn.partners;
  matched : AreFrom l.into.terms l.from.terms l.fn.partners l.partners l.n;
}

abbrev pub decreases-loop-n : goal.decreases-loop-n
decreases-loop-n l = l.n
