use Rattle.prv_propagate.proofs.Tabling.{assignment}
use Rattle.prv_propagate.proofs.trail.Trail.steps.Goals as goal

pub returns-clause-assigned : goal.returns-clause-assigned
returns-clause-assigned c = rw (← c.self.view_is) (assignment c.self.invariant.0)
