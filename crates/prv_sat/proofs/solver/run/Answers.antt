use Rattle.std.proofs.Common.{ℕ, ◌<◌, length, arith}
use Rattle.prv_sat.specs.Findings.{IsFound}
use Rattle.prv_sat.proofs.solver.run.Goals as goal

pub returns-in-Some-2 : goal.returns-in-Some-2
returns-in-Some-2 c =
    let answer : (lines : ℕ) → length c.loop.solver.state.lines.items < lines → IsFound c.args.cnf.now lines c.args.numbers c.in-Some-2.found = rw c.in-Some-2.is at c.in_ok-found-2.ensures.working in
    answer c.args.lines (omega (arith, c.loop.invariant.lines, c.loop-test.true))
