use Rattle.std.proofs.Common.{pos, ◌∙◌}
use Rattle.prv_sat.proofs.Analyzing.{marked_more}
use Rattle.prv_sat.proofs.analysis.mark_negations.Goals as goal

pub loop-lit-preserved : goal.loop-lit-preserved
loop-lit-preserved c = record {
  marked = marked_more c.args.marks.now.marked c.loop-lit.marks.marked c.mark_other.new.marks.marked c.args.lits.now c.args.except c.loop-lit.lit-index (record { 0 = pos 0 }) c.loop-lit-test.true c.loop-lit.invariant.marked c.in_ok-fresh.ensures.marked;
  vars = c.in_ok-fresh.ensures.vars ∙ c.loop-lit.invariant.vars;
}
