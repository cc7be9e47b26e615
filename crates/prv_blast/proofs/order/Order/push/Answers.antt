use Rattle.std.proofs.Common.{◌∙◌}
use Rattle.prv_blast.proofs.Orders.{inserted-last}
use Rattle.prv_blast.proofs.order.Order.push.Goals as goal

pub returns-clause-last : goal.returns-clause-last
returns-clause-last c =
    let absent = rw (← c.self.view_is) at c.requires in
    rw (← c.self.view_is) (c.in_ok-insert.ensures.keys ∙ inserted-last c.self.inside.nodes.keys c.args.node absent)
