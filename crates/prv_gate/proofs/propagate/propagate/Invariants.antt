use Rattle.std.proofs.Common.{◌+◌, ◌*◌, length}
use Rattle.prv_gate.specs.Examining.{unknown_count, Learns}
use Rattle.prv_gate.specs.Occurrences.{total, ArePending}
use Rattle.prv_gate.proofs.propagate.propagate.Given as goal

abbrev pub invariant-loop-number : goal.invariant-loop-number
invariant-loop-number l = record {
  learns : Learns (record { vars = length l.initial.known; clauses = l.clauses }) l.initial.known l.known;
  pending : ArePending l.clauses l.known l.pending.items;
}

abbrev pub decreases-loop-number : goal.decreases-loop-number
decreases-loop-number l = unknown_count l.known * (total l.occurrences + 1) + length l.pending.items
