use Rattle.prv_model.proofs.OrderLemmas.{term_cmp_total, term_cmp-equal}
use Rattle.prv_model.proofs.laws.terms_are_ordered.Goals as goal

pub returns-clause-total : goal.returns-clause-total
returns-clause-total c = term_cmp_total

pub returns-clause-equal : goal.returns-clause-equal
returns-clause-equal c = term_cmp-equal
