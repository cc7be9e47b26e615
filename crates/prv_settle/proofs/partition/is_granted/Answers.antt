use Rattle.std.proofs.Common.{nat_eq, true, false, refl, sym, ◌∙◌}
use Rattle.std.specs.List.{list_any}
use Rattle.prv_settle.proofs.NodeLists.{granted-as}
use Rattle.prv_settle.proofs.partition.is_granted.Goals as goal

pub returns-then-is_one : goal.returns-then-is_one
returns-then-is_one c =
    c.if-is_one.true
    ∙ granted-as c.args.pool.now c.args.partition.now c.args.decided c.node.result true (list_any (nat_eq c.args.decided) c.args.partition.now) c.node.ensures.table c.requires.partition c.requires.decided c.node.ensures.value
    (sym c.if-is_one.true ∙ c.is_one.ensures) refl

pub returns-else-is_one : goal.returns-else-is_one
returns-else-is_one c =
    granted-as c.args.pool.now c.args.partition.now c.args.decided c.node.result false c.contains.result c.node.ensures.table c.requires.partition c.requires.decided c.node.ensures.value (sym c.if-is_one.false ∙ c.is_one.ensures)
    c.contains.ensures
