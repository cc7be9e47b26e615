use Rattle.std.specs.List.{AllByRecursion}
use Rattle.prv_model.specs.Terms.{IsTerm}
use Rattle.prv_rows.proofs.formulas.roots_of.Given as goal

abbrev pub invariant-loop-word : goal.invariant-loop-word
invariant-loop-word l = AllByRecursion (IsTerm 8) l.pool.terms
