use Rattle.prv_marks.proofs.MarkLemmas.{IsSeen}
use Rattle.prv_marks.proofs.marks.used_twice.Given as goal

abbrev pub invariant-loop-i : goal.invariant-loop-i
invariant-loop-i l = IsSeen l.marks l.seen l.i
