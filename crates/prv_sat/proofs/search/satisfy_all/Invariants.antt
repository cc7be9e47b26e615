use Rattle.std.proofs.Common.{◌≡◌, [], length}
use Rattle.prv_check.specs.Lines.{known}
use Rattle.prv_sat.specs.States.{IsReady}
use Rattle.prv_sat.specs.Searches.{AreSatisfied}
use Rattle.prv_sat.proofs.search.satisfy_all.Given as goal

abbrev pub invariant-loop-number : goal.invariant-loop-number
invariant-loop-number l = record {
  ready : IsReady l.cnf l.fn.state.lines.items l.state.trail l.state.watches (length l.state.trail.steps);
  lines : l.state.lines.items ≡ l.fn.state.lines.items;
  satisfied : AreSatisfied (known l.cnf []) l.number l.state.trail.steps;
}
