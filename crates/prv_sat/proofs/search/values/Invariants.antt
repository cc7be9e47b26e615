use Rattle.prv_sat.specs.Searches.{AreValues}
use Rattle.prv_sat.proofs.search.values.Given as goal

abbrev pub invariant-loop-var : goal.invariant-loop-var
invariant-loop-var l = AreValues l.var l.trail.steps l.values.items
