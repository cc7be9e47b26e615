use Rattle.std.proofs.Common.{arith}
use Rattle.prv_region.proofs.PairLemmas.{from-more, from-stop, from-start}
use Rattle.prv_region.proofs.same.are_same.Goals as goal

pub overflow_cast-n : goal.overflow_cast-n
overflow_cast-n c = omega (arith, c.requires.small, c.loop-n.invariant.within)

pub returns-then-not-pair_operands : goal.returns-then-not-pair_operands
returns-then-not-pair_operands c =
    from-stop c.args.into.now c.args.from.now c.args.partners.now c.loop-n.partners c.pair_operands.new.partners c.loop-n.n _ c.keeps_a_table.ensures c.loop-n.invariant.matched (rw c.if-not-pair_operands.true at c.pair_operands.ensures)

pub loop-n-preserved : goal.loop-n-preserved
loop-n-preserved c = record {
  within = omega (arith, c.loop-n.invariant.within);
  matched =
      from-more c.args.into.now.terms c.args.from.now.terms c.args.partners.now c.loop-n.partners c.pair_operands.new.partners c.loop-n.n _ (omega arith) c.loop-n.invariant.matched (rw c.if-not-pair_operands.false at c.pair_operands.ensures);
}

pub returns : goal.returns
returns c = from-start c.args.into.now.terms c.args.from.now.terms c.args.partners.now c.loop-n.partners c.loop-n.n (omega arith) c.loop-n.invariant.matched
