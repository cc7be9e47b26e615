use Rattle.prv_region.proofs.PairLemmas.{lists-in, lists-stop, lists-go-on}
use Rattle.prv_region.proofs.same.same_lists.Goals as goal

pub are_same-requires-clause-within : goal.are_same-requires-clause-within
are_same-requires-clause-within c =
    lists-in c.args.into.now.terms c.args.from.now.terms c.args.partners.now c.args.nodes.now c.args.others.now c.requires.blank c.keeps_a_table.ensures.distinct c.requires.others c.pair_all.new.partners c.pair_all.result c.pair_all.ensures

pub returns-then-pair_all : goal.returns-then-pair_all
returns-then-pair_all c =
    lists-go-on c.args.into.now.terms c.args.from.now.terms c.args.partners.now c.args.nodes.now c.args.others.now c.requires.blank c.keeps_a_table.ensures.distinct c.requires.others c.pair_all.new.partners c.pair_all.result c.are_same.result
    c.if-pair_all.true c.pair_all.ensures c.are_same.ensures

pub returns-else-pair_all : goal.returns-else-pair_all
returns-else-pair_all c =
    lists-stop c.args.into.now.terms c.args.from.now.terms c.args.partners.now c.args.nodes.now c.args.others.now c.requires.blank c.keeps_a_table.ensures.distinct c.requires.others c.pair_all.new.partners c.pair_all.result
    c.if-pair_all.false c.pair_all.ensures
