use Rattle.std.proofs.Common.{◌≡◌, rules}
use Rattle.prv_region.proofs.PairLemmas.{op-nodes, pick-nodes, each-then, each-stop}
use Rattle.prv_region.proofs.same.pair_nodes.Goals as goal

pub returns-then-eq : goal.returns-then-eq
returns-then-eq c =
    let e = c.if-eq.true in
    let d = c.eq-in-Op-other.ensures in
    let same : c.in-Op-other.its ≡ c.in-Op.op = search rules in
    op-nodes c.args.partners.now c.pair_two.new.partners c.args.node c.args.other c.in-Op.op c.in-Op-other.its c.in-Op.a c.in-Op.b c.in-Op-other.x c.in-Op-other.y c.pair_two.result c.in-Op.is c.in-Op-other.is same c.pair_two.ensures

pub returns-then-pair : goal.returns-then-pair
returns-then-pair c =
    pick-nodes c.args.partners.now c.pair_two-then-pair.new.partners c.args.node c.args.other c.in-Pick.test c.in-Pick.a c.in-Pick.b c.in-Pick-other.its c.in-Pick-other.x c.in-Pick-other.y c.pair_two-then-pair.result c.in-Pick.is c.in-Pick-other.is
    (each-then _ c.pair.new.partners _ _ _ _ _ (rw c.if-pair.true at c.pair.ensures) c.pair_two-then-pair.ensures)

pub returns-else-pair : goal.returns-else-pair
returns-else-pair c =
    rw c.if-pair.false (pick-nodes c.args.partners.now c.pair.new.partners c.args.node c.args.other c.in-Pick.test c.in-Pick.a c.in-Pick.b c.in-Pick-other.its c.in-Pick-other.x c.in-Pick-other.y _ c.in-Pick.is c.in-Pick-other.is
    (each-stop _ _ _ _ _ (rw c.if-pair.false at c.pair.ensures)))
