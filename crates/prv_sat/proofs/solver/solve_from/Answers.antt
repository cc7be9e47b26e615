use Rattle.prv_sat.proofs.Finishing.{decided_from}
use Rattle.prv_sat.proofs.solver.solve_from.Goals as goal

pub returns-clause-ample : goal.returns-clause-ample
returns-clause-ample c = decided_from c.args.cnf.now c.args.lines c.args.numbers c.in_ok-found.found c.in_ok-found.ensures
