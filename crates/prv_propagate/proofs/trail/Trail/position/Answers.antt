use Rattle.std.proofs.Common.{◌≡◌, true, ap, ◌∙◌}
use Rattle.prv_cnf.specs.Literals.{has_literal}
use Rattle.prv_propagate.specs.Trails.{Trailing, trues}
use Rattle.prv_propagate.proofs.Tabling.{position_read}
use Rattle.prv_propagate.proofs.trail.Trail.position.Goals as goal

pub returns-clause-inside : goal.returns-clause-inside
returns-clause-inside c =
    let here : has_literal (trues c.self.inside.steps.items) c.args.lit ≡ true = ap (λ (t : Trailing). has_literal (trues t.steps) c.args.lit) c.self.view_is ∙ c.requires in
    rw (← c.self.view_is) (position_read c.self.invariant.0 c.args.lit c.variable.result c.index.result.now here c.variable.ensures.value c.index.ensures).0

pub returns-clause-there : goal.returns-clause-there
returns-clause-there c =
    let here : has_literal (trues c.self.inside.steps.items) c.args.lit ≡ true = ap (λ (t : Trailing). has_literal (trues t.steps) c.args.lit) c.self.view_is ∙ c.requires in
    rw (← c.self.view_is) (position_read c.self.invariant.0 c.args.lit c.variable.result c.index.result.now here c.variable.ensures.value c.index.ensures).1
