use Rattle.prv_region.proofs.ValueLemmas.{zero-found}
use Rattle.prv_region.proofs.holds.first_zero_of.Goals as goal

pub returns-clause-place : goal.returns-clause-place
returns-clause-place c =
    zero-found c.args.pool.now.terms c.evaluate.new.values.items c.as_slice-2.result.now c.args.input.now c.as_slice.result.now c.end_of-count.result c.args.roots.now c.first_zero_at.result
    c.as_slice-2.ensures.value c.as_slice.ensures.value c.evaluate.ensures.values c.end_of-count.ensures.above c.first_zero_at.ensures
