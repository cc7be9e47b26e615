use Rattle.std.proofs.Common.{◌≡◌, ◌++◌, pos, replicate}
use Rattle.prv_run.proofs.runs.initial_state.Given as goal

-- one 0 for each variable so far
abbrev pub invariant-loop : goal.invariant-loop
invariant-loop l = l.state ≡ l.words ++ replicate l.counter (pos 0)
