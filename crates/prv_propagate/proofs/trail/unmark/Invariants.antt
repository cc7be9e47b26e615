use Rattle.std.proofs.Common.{◌≡◌, ◌+◌, ◌≤◌, length, take, count_by}
use Rattle.prv_propagate.specs.Keeping.{AreUnmarked}
use Rattle.prv_propagate.proofs.trail.unmark.Given as goal

abbrev pub invariant-loop-step : goal.invariant-loop-step
invariant-loop-step l = record {
  len : length l.table.items ≡ length l.fn.table.items;
  marks : AreUnmarked l.fn.table.items (take l.step-index l.steps) l.table.items;
  count : count_by (λ b. b) l.fn.table.items ≤ count_by (λ b. b) l.table.items + l.step-index;
}
