use Rattle.std.proofs.Common.{pos, arith}
use Rattle.prv_sat.proofs.Analyzing.{reach_more, last_max}
use Rattle.prv_sat.proofs.analysis.reach.Goals as goal

pub loop-other-preserved : goal.loop-other-preserved
loop-other-preserved c =
    let steps = c.args.trail.now.steps in
    let marked = c.args.marks.now.marked in
    let keep = c.loop-other.keep in
    let more = c.needed.result in
    record {
      inside = omega (arith, c.loop-other.invariant.inside, c.needed.ensures.inside, c.greater-keep.ensures);
      others = rw c.greater-keep.ensures (reach_more steps marked c.touched-other-items.result.now c.args.lit (record { 0 = pos 0 }) c.loop-other.other-index keep more c.loop-other-test.true c.loop-other.invariant.others c.needed.ensures.reached);
      last = rw c.greater-keep.ensures (last_max steps marked c.args.lit keep more c.loop-other.invariant.last c.needed.ensures.last);
    }
