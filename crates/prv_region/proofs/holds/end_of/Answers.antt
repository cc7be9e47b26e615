use Rattle.std.proofs.Common.{arith, subst, ℕ, ◌<◌}
use Rattle.std.proofs.lemmas.List.{get_or_default}
use Rattle.prv_region.proofs.holds.end_of.Goals as goal

pub returns-clause-above : goal.returns-clause-above
returns-clause-above c = λ k d h. subst (λ (n : ℕ). n < c.loop-n.end) (get_or_default c.args.nodes.now k 0 d h) (c.loop-n.invariant.above k (omega arith))
