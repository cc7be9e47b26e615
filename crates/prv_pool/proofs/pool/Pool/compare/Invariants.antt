use Rattle.std.proofs.Common.{◌≡◌, ◌<◌, length}
use Rattle.prv_model.specs.TermOrder.{term_cmp}
use Rattle.prv_pool.specs.Tables.{term_at}
use Rattle.prv_pool.proofs.pool.Pool.compare.Given as goal

abbrev pub invariant-loop-a : goal.invariant-loop-a
invariant-loop-a l = record {
  first : l.a < length l.self.terms;
  second : l.b < length l.self.terms;
  same : term_cmp (term_at l.self.terms l.a) (term_at l.self.terms l.b) ≡ term_cmp (term_at l.self.terms l.fn.a) (term_at l.self.terms l.fn.b);
}

abbrev pub decreases-loop-a : goal.decreases-loop-a
decreases-loop-a l = l.a
