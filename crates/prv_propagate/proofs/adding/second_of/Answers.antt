use Rattle.std.proofs.Common.{◌-◌, arith}
use Rattle.prv_propagate.specs.Trails.{step_at}
use Rattle.prv_propagate.proofs.Tabling.{within_at, within_parts}
use Rattle.prv_propagate.proofs.adding.second_of.Goals as goal

pub negated-requires : goal.negated-requires
negated-requires c =
    let t = c.args.trail.now in
    rw c.steps-steps.ensures.value (omega (arith, c.steps-steps.ensures.small, within_parts t.vars (step_at t.steps (c.args.keep - 1)).lit (within_at t.vars t.steps (c.args.keep - 1) c.steps-steps.ensures.assigned.within (omega arith))))
