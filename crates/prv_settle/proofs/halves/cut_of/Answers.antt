use Rattle.std.proofs.Common.{refl, subst, sym}
use Rattle.prv_settle.specs.Making.{AreNodes}
use Rattle.prv_settle.proofs.Halving.{region-in, before-in, after-in, cut-is}
use Rattle.prv_settle.proofs.halves.cut_of.Goals as goal

pub partition-requires-clause-region : goal.partition-requires-clause-region
partition-requires-clause-region c = subst (AreNodes c.args.pool.terms) (sym c.roots-region.ensures) (region-in _ _ _ _ _ c.requires.3)

pub partition-requires-clause-before : goal.partition-requires-clause-before
partition-requires-clause-before c = subst (AreNodes c.args.pool.terms) (sym c.as_slice.ensures) (before-in _ _ _ _ _ c.requires.3)

pub partition-requires-clause-after : goal.partition-requires-clause-after
partition-requires-clause-after c = subst (AreNodes c.args.pool.terms) (sym c.as_slice-2.ensures) (after-in _ _ _ _ _ c.requires.3)

pub returns-clause-cut : goal.returns-clause-cut
returns-clause-cut c = λ pair region t h.
    cut-is pair region t c.args.runs.now _ _ _ _ _ _ h c.roots-region.ensures c.as_slice.ensures c.as_slice-2.ensures c.as_slice-3.ensures c.as_slice-4.ensures refl c.in_ok-partition.ensures.nodes c.in_ok-partition.ensures.terms c.in_ok-marks.ensures
