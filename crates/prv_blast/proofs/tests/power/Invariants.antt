use Rattle.std.proofs.Common.{◌<◌, length}
use Rattle.std.specs.List.{AllByRecursion}
use Rattle.prv_model.specs.Terms.{IsTerm}
use Rattle.prv_blast.proofs.tests.power.Given as goal

abbrev pub invariant-loop : goal.invariant-loop
invariant-loop l = record {
  known : AllByRecursion (IsTerm 8) l.pool.terms;
  first : l.a < length l.pool.terms;
  product : l.product < length l.pool.terms;
}
