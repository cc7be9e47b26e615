use Rattle.std.proofs.Common.{◌≡◌, ◌+◌, [], ◌++◌, take, drop}
use Rattle.prv_run.specs.Points.{literals, rests}
use Rattle.prv_run.proofs.points.push_rests.Given as goal

-- the entries so far and the rests that are left are all of them
abbrev pub invariant-loop-k : goal.invariant-loop-k
invariant-loop-k l =
    l.entries.items ++ rests (2 + l.k) (literals 0 (take l.k l.words)) l.k (drop l.k l.words) ≡ l.initial.entries.items ++ rests 2 [] 0 l.words
