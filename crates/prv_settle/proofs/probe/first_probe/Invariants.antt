use Rattle.std.proofs.Common.{◌≡◌, ◌≤◌, None, length, map, take}
use Rattle.std.specs.Prelude.{find}
use Rattle.prv_model.specs.Terms.{holds}
use Rattle.prv_pool.specs.Tables.{term_at}
use Rattle.prv_settle.specs.Probes.{probes}
use Rattle.prv_settle.proofs.probe.first_probe.Given as goal

abbrev pub invariant-loop-word : goal.invariant-loop-word
invariant-loop-word l = record {
  none : find (holds (map (term_at l.pool.terms) l.cond)) (take l.word-index (probes l.params)) ≡ None;
  room : length l.pool.terms ≤ l.scratch;
}
