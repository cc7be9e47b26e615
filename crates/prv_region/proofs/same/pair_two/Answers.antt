use Rattle.prv_region.proofs.PairLemmas.{two-then, two-stop}
use Rattle.prv_region.proofs.same.pair_two.Goals as goal

pub returns-then-pair : goal.returns-then-pair
returns-then-pair c =
    two-then c.args.partners.now c.pair.new.partners c.pair-then-pair.new.partners c.args.a c.args.x c.args.b c.args.y c.pair.result c.pair-then-pair.result c.if-pair.true c.pair.ensures c.pair-then-pair.ensures

pub returns-else-pair : goal.returns-else-pair
returns-else-pair c = two-stop c.args.partners.now c.pair.new.partners c.args.a c.args.x c.args.b c.args.y c.pair.result c.if-pair.false c.pair.ensures
