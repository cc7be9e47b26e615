use Rattle.std.proofs.Common.{◌≡◌, length}
use Rattle.prv_sat.specs.States.{IsWorking}
use Rattle.prv_sat.proofs.solver.run.Given as goal

abbrev pub invariant-loop : goal.invariant-loop
invariant-loop l = record {
  working : IsWorking l.cnf l.solver.state.lines.items l.solver.state.trail l.solver.state.watches l.solver.state.done l.solver.marks l.solver.used l.numbers;
  lines : length l.solver.state.lines.items ≡ l.counter;
}
