use Rattle.prv_region.proofs.PairLemmas.{AreSoFar}
use Rattle.prv_region.proofs.same.pair_all.Given as goal

abbrev pub invariant-loop-i : goal.invariant-loop-i
invariant-loop-i l = AreSoFar l.fn.partners l.partners l.nodes l.others l.i
