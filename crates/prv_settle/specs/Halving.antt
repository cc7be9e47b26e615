-- What the calls make that cut a partition in two.
use Rattle.std.specs.Prelude.{◌≡◌, List, ℤ}
use Rattle.prv_model.specs.declared.program.Pair.{Pair}
use Rattle.prv_model.specs.declared.term.Term.{Term}
use Rattle.prv_pool.specs.Folding.{negation}
use Rattle.prv_sym.specs.Calls.{StandsFor}
use Rattle.prv_part.specs.Literals.{agree_at, decided_equality}
use Rattle.prv_settle.specs.Making.{IsCut}
use Rattle.prv_settle.specs.Rooms.{HasRoom}
use Rattle.prv_settle.specs.declared.halves.Halves.{Halves}

-- the nodes of the partition of an input, those of what the versions compare to there and of its negation, whether they agree there, and room for the negations of its literals
pub record AreHalves (pair : Pair) (region : List Term) (t : List ℤ) (halves : Halves) : Type 0 where
  pub cut : IsCut pair region t halves.cut
  pub first : StandsFor halves.cut.pool.terms halves.first (decided_equality pair t)
  pub second : StandsFor halves.cut.pool.terms halves.second (negation (decided_equality pair t))
  pub agree : halves.agree ≡ agree_at pair t
  pub room : HasRoom 0 halves.cut
