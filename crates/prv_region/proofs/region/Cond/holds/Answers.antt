use Rattle.std.proofs.Common.{◌∙◌, ap, List, ℕ, map}
use Rattle.prv_model.specs.Terms.{holds}
use Rattle.prv_pool.specs.Tables.{term_at}
use Rattle.prv_region.proofs.ValueLemmas.{none-holds}
use Rattle.prv_region.proofs.region.Cond.holds.Goals as goal

pub returns-clause-value : goal.returns-clause-value
returns-clause-value c =
    none-holds _ _ _ _ c.is_none.ensures c.first_zero_of.ensures.place ∙ ap (λ (roots : List ℕ). holds (map (term_at c.args.pool.now.terms) roots) c.args.input.now) c.roots.ensures
