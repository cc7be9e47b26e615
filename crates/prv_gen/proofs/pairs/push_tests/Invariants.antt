use Rattle.std.proofs.Common.{◌≡◌, ◌+◌, ◌-◌, ◌++◌}
use Rattle.prv_gen.specs.Generated.{test_lines}
use Rattle.prv_gen.proofs.pairs.push_tests.Given as goal

-- the lines so far and those that are left are all of them
abbrev pub invariant-loop-k : goal.invariant-loop-k
invariant-loop-k l = l.out.items ++ test_lines l.draws.state (l.k + 1) (l.size - l.k) ≡ l.initial.out.items ++ test_lines l.number 1 l.size
