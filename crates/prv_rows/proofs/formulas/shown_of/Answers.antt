use Rattle.prv_rows.proofs.Pools.{roots-within, roots-known}
use Rattle.prv_rows.proofs.formulas.shown_of.Goals as goal

pub blast-requires-clause-nodes : goal.blast-requires-clause-nodes
blast-requires-clause-nodes c = roots-within _ _ c.in_ok-cond.ensures.there

pub blast-requires-clause-params : goal.blast-requires-clause-params
blast-requires-clause-params c = roots-known _ _ c.in_ok-cond.ensures.known c.in_ok-cond.ensures.there
