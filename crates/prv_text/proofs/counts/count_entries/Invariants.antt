use Rattle.prv_text.proofs.Counting.{AreCounted}
use Rattle.prv_text.proofs.counts.count_entries.Given as goal

abbrev pub invariant-loop-entry : goal.invariant-loop-entry
invariant-loop-entry l = AreCounted l.counts l.entries l.entry-index
