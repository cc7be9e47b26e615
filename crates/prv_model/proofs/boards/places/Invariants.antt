use Rattle.std.proofs.Common.{◌≡◌, ◌≤◌, ◌+◌, map, drop}
use Rattle.prv_model.specs.Boards.{places}
use Rattle.prv_model.proofs.boards.places.Given as goal

abbrev pub invariant-loop-entry : goal.invariant-loop-entry
invariant-loop-entry l = record {
  rest : l.count + places (map (λ e. e.terms) (drop l.entry-index l.entries)) l.words ≡ places (map (λ e. e.terms) l.entries) l.words;
  few : l.count ≤ l.entry-index;
}
