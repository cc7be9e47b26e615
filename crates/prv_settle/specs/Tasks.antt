-- Which regions may be settled.
use Rattle.std.specs.Prelude.{ℕ, ◌≤◌, ◌^◌, List, length, All}
use Rattle.prv_model.specs.Terms.{IsTerm}
use Rattle.prv_model.specs.declared.term.Term.{Term}

-- a region is over so many parameters, and has not too many literals
pub record IsTask (n : ℕ) (region : List Term) : Type 0 where
  pub known : All (IsTerm n) region
  pub few : length region ≤ 2 ^ 48
