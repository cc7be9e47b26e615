use Rattle.prv_gate.proofs.Entering.{place-kept, occurrences-more}
use Rattle.prv_gate.proofs.occurrences.Occurrences.enter.Goals as goal

pub loop-lit-preserved : goal.loop-lit-preserved
loop-lit-preserved c = record {
  inside = place-kept c.args.clause _ c.loop-lit.self c.add.new.self c.in_ok-add.ensures c.args.lits.now c.loop-lit.invariant.inside;
  rest = occurrences-more c.args.clause c.args.lits.now c.loop-lit.lit-index _ c.args.self.now c.loop-lit.self c.add.new.self c.loop-lit-test.true c.in_ok-add.ensures c.loop-lit.invariant.rest;
}
