use Rattle.std.proofs.Common.{◌≡◌, ◌≤◌, take}
use Rattle.prv_blast.specs.Subterms.{most_params}
use Rattle.prv_blast.specs.Orders.{terms_at}
use Rattle.prv_blast.proofs.cost.param_count.Given as goal

abbrev pub invariant-loop-place : goal.invariant-loop-place
invariant-loop-place l = record {
  most : l.count ≡ most_params (take l.place (terms_at l.pool.terms l.order));
  bound : l.count ≤ 8;
}
