use Rattle.std.proofs.Common.{refl, arith}
use Rattle.prv_region.proofs.PairLemmas.{far-more, far-stop, far-done}
use Rattle.prv_region.proofs.same.pair_all.Goals as goal

pub returns-then-not-pair : goal.returns-then-not-pair
returns-then-not-pair c =
    far-stop c.args.partners.now c.loop-i.partners c.pair.new.partners c.args.nodes.now c.args.others.now c.loop-i.i _ _ (omega arith) c.requires.lengths refl refl c.loop-i.invariant (rw c.if-not-pair.true at c.pair.ensures)

pub loop-i-preserved : goal.loop-i-preserved
loop-i-preserved c =
    far-more c.args.partners.now c.loop-i.partners c.pair.new.partners c.args.nodes.now c.args.others.now c.loop-i.i _ _ (omega arith) c.requires.lengths refl refl c.loop-i.invariant (rw c.if-not-pair.false at c.pair.ensures)

pub returns : goal.returns
returns c = far-done c.args.partners.now c.loop-i.partners c.args.nodes.now c.args.others.now c.loop-i.i c.requires.lengths (omega arith) c.loop-i.invariant
