use Rattle.std.proofs.Common.{pos, sym, ◌∙◌}
use Rattle.prv_check.proofs.Propagating.{found_two}
use Rattle.prv_check.proofs.propagate.unit_of.Goals as goal

pub returns-then-is_other : goal.returns-then-is_other
returns-then-is_other c =
    sym
    (found_two c.args.trail.now c.args.lits.now c.loop-lit.lit-index c.loop-lit.found (record { 0 = pos 0 })
    c.is_other.result c.loop-lit-test.true (sym c.is_false.ensures ∙ c.if-not-is_false.true)
    c.loop-lit.invariant c.is_other.ensures c.if-is_other.true)
