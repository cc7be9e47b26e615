use Rattle.std.proofs.Common.{◌≡◌, take, length}
use Rattle.prv_blast.specs.Subterms.{subterms}
use Rattle.prv_blast.specs.Orders.{AreWithin, terms_at}
use Rattle.prv_blast.proofs.order.order_of.Given as goal

abbrev pub invariant-loop-root : goal.invariant-loop-root
invariant-loop-root l = record {
  terms : terms_at l.pool.terms l.order ≡ subterms (terms_at l.pool.terms (take l.root-index l.roots));
  within : AreWithin (length l.pool.terms) l.order;
}
