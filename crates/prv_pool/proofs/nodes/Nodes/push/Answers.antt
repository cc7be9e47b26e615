use Rattle.std.proofs.Common.{◌∙◌}
use Rattle.prv_pool.proofs.KeyLemmas.{are-distinct, inserted-last}
use Rattle.prv_pool.proofs.nodes.Nodes.push.Goals as goal

pub returns-in_err-insert-clause-distinct : goal.returns-in_err-insert-clause-distinct
returns-in_err-insert-clause-distinct c = are-distinct c.insert.new.self.entries c.insert.ensures.unique

pub returns-clause-ok : goal.returns-clause-ok
returns-clause-ok c =
    let absent = rw (← c.self.view_is) at c.requires in
    rw (← c.self.view_is) (c.in_ok-insert.ensures.entries ∙ inserted-last c.self.inside.map.entries c.args.node c.args.truth absent)

pub returns-clause-distinct : goal.returns-clause-distinct
returns-clause-distinct c = are-distinct c.insert.new.self.entries c.insert.ensures.unique
