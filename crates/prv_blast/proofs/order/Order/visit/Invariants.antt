use Rattle.std.proofs.Common.{◌≡◌, length}
use Rattle.prv_pool.specs.Tables.{term_at, add_term}
use Rattle.prv_blast.specs.Orders.{IsWalk, terms_at, climbed, walk_left}
use Rattle.prv_blast.proofs.order.Order.visit.Given as goal

abbrev pub invariant-loop-node : goal.invariant-loop-node
invariant-loop-node l = record {
  walk : IsWalk (length l.pool.terms) l.self l.path.items;
  climbs : climbed l.pool.terms l.path.items (terms_at l.pool.terms l.self) ≡ add_term (term_at l.pool.terms l.root) (terms_at l.pool.terms l.fn.self);
}

abbrev pub decreases-loop-node : goal.decreases-loop-node
decreases-loop-node l = walk_left (length l.pool.terms) l.self l.path.items
