use Rattle.std.proofs.Common.{◌≡◌, ◌*◌, ◌≤◌, take}
use Rattle.prv_blast.specs.Subterms.{costs}
use Rattle.prv_blast.specs.Orders.{terms_at}
use Rattle.prv_blast.proofs.cost.cost.Given as goal

abbrev pub invariant-loop-place : goal.invariant-loop-place
invariant-loop-place l = record {
  sum : l.sum ≡ costs (take l.place (terms_at l.pool.terms l.order));
  bound : l.sum ≤ 24000 * l.place;
}
