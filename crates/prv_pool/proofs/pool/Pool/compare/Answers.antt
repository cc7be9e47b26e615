use Rattle.std.proofs.Common.{◌∙◌, sym, ap}
use Rattle.prv_model.specs.TermOrder.{term_cmp}
use Rattle.prv_model.proofs.OrderLemmas.{term_cmp-itself}
use Rattle.prv_pool.specs.Tables.{term_at}
use Rattle.prv_pool.proofs.pool.Pool.compare.Goals as goal

pub returns : goal.returns
returns c =
    let ts = c.args.self.now.terms in
    sym (term_cmp-itself (term_at ts c.loop-a.a)) ∙ ap (λ i. term_cmp (term_at ts c.loop-a.a) (term_at ts i)) c.loop-a-test.false ∙ c.loop-a.invariant.same
