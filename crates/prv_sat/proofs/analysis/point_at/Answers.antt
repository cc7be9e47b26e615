use Rattle.std.proofs.Common.{◌+◌, arith}
use Rattle.prv_propagate.specs.Trails.{step_at}
use Rattle.prv_propagate.proofs.Walking.{within_take}
use Rattle.prv_sat.specs.Analyses.{IsReach}
use Rattle.prv_sat.proofs.Analyzing.{point_from}
use Rattle.prv_sat.proofs.analysis.point_at.Goals as goal

pub reach-requires : goal.reach-requires
reach-requires c = λ l h. within_take (c.args.at + 1) c.args.trail.now.steps l (c.requires.front l h)

pub returns-then-reach-base-clause-some : goal.returns-then-reach-base-clause-some
returns-then-reach-base-clause-some c =
    let steps = c.args.trail.now.steps in
    let reached : IsReach steps c.args.marks.now.marked (step_at steps c.args.at).lit c.reach.result = rw c.steps.ensures.value at c.reach.ensures in
    point_from steps c.args.marks.now.marked c.args.at c.in-Some.base c.reach.result c.requires.inside c.requires.marked (omega arith) c.in-Some.ensures.some.1 reached (omega arith)
