-- Counts of entries by kind, added and taken away field by field.
use Rattle.std.specs.Prelude.{◌≡◌, ◌+◌, ◌≤◌, ◌<◌, ◌^◌}
use Rattle.prv_board.specs.declared.counts.Counts.{Counts}

-- no count of the first is greater than that of the second
pub record IsWithin (a b : Counts) : Type 0 where
  pub same : a.same ≤ b.same
  pub different : a.different ≤ b.different
  pub empty : a.empty ≤ b.empty
  pub beyond : a.beyond ≤ b.beyond
  pub unexplored : a.unexplored ≤ b.unexplored
  pub undecided : a.undecided ≤ b.undecided

-- the third is the sum of the first two
pub record IsSum (a b sum : Counts) : Type 0 where
  pub same : sum.same ≡ a.same + b.same
  pub different : sum.different ≡ a.different + b.different
  pub empty : sum.empty ≡ a.empty + b.empty
  pub beyond : sum.beyond ≡ a.beyond + b.beyond
  pub unexplored : sum.unexplored ≡ a.unexplored + b.unexplored
  pub undecided : sum.undecided ≡ a.undecided + b.undecided

-- the sum of both fits into words
pub record AreSmall (a b : Counts) : Type 0 where
  pub same : a.same + b.same < 2 ^ 32
  pub different : a.different + b.different < 2 ^ 32
  pub empty : a.empty + b.empty < 2 ^ 32
  pub beyond : a.beyond + b.beyond < 2 ^ 32
  pub unexplored : a.unexplored + b.unexplored < 2 ^ 32
  pub undecided : a.undecided + b.undecided < 2 ^ 32

-- two counts are together what two others are
pub record IsRest (made rest start all : Counts) : Type 0 where
  pub same : made.same + rest.same ≡ start.same + all.same
  pub different : made.different + rest.different ≡ start.different + all.different
  pub empty : made.empty + rest.empty ≡ start.empty + all.empty
  pub beyond : made.beyond + rest.beyond ≡ start.beyond + all.beyond
  pub unexplored : made.unexplored + rest.unexplored ≡ start.unexplored + all.unexplored
  pub undecided : made.undecided + rest.undecided ≡ start.undecided + all.undecided
