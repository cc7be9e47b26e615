use Rattle.std.proofs.Common.{ℕ, ◌<◌, ◌≤◌, length, get_or}
use Rattle.prv_region.proofs.holds.end_of.Given as goal

abbrev pub invariant-loop-n : goal.invariant-loop-n
invariant-loop-n l = record {
  within : l.end ≤ length l.pool.terms;
  above : (k : ℕ) → k < l.n-index → get_or l.nodes k 0 < l.end;
}
