use Rattle.std.proofs.Common.{◌≡◌, ◌++◌, drop}
use Rattle.prv_run.specs.Points.{literals}
use Rattle.prv_run.proofs.points.literals.Given as goal

-- the literals so far and those that are left are all of them
abbrev pub invariant-loop-k : goal.invariant-loop-k
invariant-loop-k l = l.terms ++ literals l.k (drop l.k l.words) ≡ literals 0 l.words
