use Rattle.std.proofs.Common.{◌≤◌, ◌<◌, length, arith}
use Rattle.prv_check.specs.Spending.{log_numbers}
use Rattle.prv_sat.proofs.solver.refute.Goals as goal

pub returns : goal.returns
returns c = λ lines numbers some.
    let none : log_numbers c.args.solver.now.state.lines.items ≤ numbers = rw c.requires.lines (omega arith) in
    let less : length c.args.solver.now.state.lines.items < lines = rw c.requires.lines some in
    c.in_ok-found-in-Refuted.ensures lines numbers less none
