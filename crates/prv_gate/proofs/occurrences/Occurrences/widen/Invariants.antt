use Rattle.std.proofs.Common.{◌≡◌, ℕ, ◌≤◌, get_or, length, []}
use Rattle.prv_gate.proofs.occurrences.Occurrences.widen.Given as goal

abbrev pub invariant-loop : goal.invariant-loop
invariant-loop l = record {
  wide : l.counter ≤ length l.self-inside.lists.items;
  same : (place : ℕ) → get_or l.self-inside.lists.items place [] ≡ get_or l.initial.self-inside.lists.items place [];
}
