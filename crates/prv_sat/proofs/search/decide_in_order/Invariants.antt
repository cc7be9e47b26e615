use Rattle.std.proofs.Common.{◌≡◌, length}
use Rattle.prv_sat.specs.States.{IsReady}
use Rattle.prv_sat.proofs.search.decide_in_order.Given as goal

abbrev pub invariant-loop : goal.invariant-loop
invariant-loop l = record {
  ready : IsReady l.cnf l.fn.state.lines.items l.state.trail l.state.watches (length l.state.trail.steps);
  lines : l.state.lines.items ≡ l.fn.state.lines.items;
}
