-- How far the runs at an input settle a region.
use Rattle.std.specs.Prelude.{List, ℤ, if◌then◌else◌}
use Rattle.prv_model.specs.declared.program.Pair.{Pair}
use Rattle.prv_model.specs.declared.term.Term.{Term}
use Rattle.prv_settle.specs.Counts.{is_wide, has_many_literals, is_beyond}
use Rattle.prv_settle.specs.Grounds.{is_granted}

-- the terms or the literals are too many, a version passes the bound on turns, the partition is settled by itself, or its other part has to be searched
pub data Stage : Type 0 where
  Wide : Stage
  Literals : Stage
  Beyond : Stage
  Granted : Stage
  Open : Stage

-- the first of these that is so
abbrev pub stage : Pair → List Term → List ℤ → Stage
stage pair region t =
    if is_wide pair region t then Wide
    else if has_many_literals pair t then Literals
    else if is_beyond pair t then Beyond
    else if is_granted pair region t then Granted
    else Open
