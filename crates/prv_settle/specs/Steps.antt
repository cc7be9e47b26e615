-- What the steps of settling a task give.
use Rattle.std.specs.Prelude.{◌≡◌, true, List, ℤ}
use Rattle.std.specs.Arc.{arc_value}
use Rattle.prv_model.specs.Boards.{IsInput}
use Rattle.prv_model.specs.Terms.{holds}
use Rattle.prv_record.specs.declared.raw.Raw.{Raw}
use Rattle.prv_settle.specs.Answers.{IsShown}
use Rattle.prv_settle.specs.Pairings.{Supported}
use Rattle.prv_settle.specs.Settlings.{IsRecord, IsSettled, IsSettledAt}
use Rattle.prv_settle.specs.Supported.{finding_of}
use Rattle.prv_settle.specs.declared.task.Task.{Task}

-- an input of a task's region
pub record IsMember (task : Task) (t : List ℤ) : Type 0 where
  pub input : IsInput (arc_value task.pair.now).before.params t
  pub inside : holds task.region.now t ≡ true

-- a record settles a task's region, from an input that is searched or at one that is given
abbrev pub Settles : Task → Raw → Type 0
Settles task raw = IsSettled (arc_value task.pair.now) task.region.now task.entry task.options.lines raw

abbrev pub SettlesAt : Task → List ℤ → Raw → Type 0
SettlesAt task t raw = IsSettledAt (arc_value task.pair.now) task.region.now task.entry task.options.lines t raw

-- a record is what settling a task's region may come to
abbrev pub MaySettle : Task → Raw → Type 0
MaySettle task raw = IsRecord (IsShown (arc_value task.pair.now).before.params) (arc_value task.pair.now) task.region.now raw.entry raw

-- a record, and the settlement that it gives a task's region
abbrev pub sealed : Task → Raw → Supported
sealed task raw = record { finding = finding_of (arc_value task.pair.now) task.region.now raw; raw = raw }

-- what settling a task gives: a record that settles it, and the settlement that this record gives
pub record IsSettling (task : Task) (s : Supported) : Type 0 where
  pub settled : Settles task s.raw
  pub finding : s.finding ≡ finding_of (arc_value task.pair.now) task.region.now s.raw

-- the same at an input that is given
pub record IsSettlingAt (task : Task) (t : List ℤ) (s : Supported) : Type 0 where
  pub settled : SettlesAt task t s.raw
  pub finding : s.finding ≡ finding_of (arc_value task.pair.now) task.region.now s.raw
