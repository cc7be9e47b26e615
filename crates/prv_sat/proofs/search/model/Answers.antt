use Rattle.prv_sat.specs.Searches.{AreValues}
use Rattle.prv_sat.proofs.Searching.{model_from}
use Rattle.prv_sat.proofs.search.model.Goals as goal

pub returns : goal.returns
returns c =
    let values : AreValues c.args.cnf.now.vars c.args.trail.now.steps c.in_ok-values.values.items = rw c.vars.ensures.value at c.in_ok-values.ensures in
    (values.0, model_from c.args.cnf.now c.args.trail.now c.in_ok-values.values.items c.steps.ensures.assigned c.requires.vars values c.requires.satisfied)
