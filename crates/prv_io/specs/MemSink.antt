-- A sink in memory.
use Rattle.std.specs.Prelude.{ℕ, ◌-◌, ◌==◌, List, ◌++◌, length, take, min, Bool, true, false, ◌||◌, ◌&&◌, not, if◌then◌else◌}
use Rattle.prv_io.specs.FaultPlan.{Plan, is_to_fail, after_call}

-- for how many bytes there is room, the bytes that were taken, and the calls so far
pub record SinkInMemory : Type 0 where
  pub room : ℕ
  pub taken : List ℕ
  pub plan : Plan

-- how many bytes of this piece there is room for
abbrev pub count_of : SinkInMemory → List ℕ → ℕ
count_of sink piece = min (length piece) sink.room

-- the next write fails: it is to fail, or there is no room for a piece that has bytes
abbrev pub write_fails : SinkInMemory → List ℕ → Bool
write_fails sink piece = is_to_fail sink.plan || (sink.room == 0 && not (length piece == 0))

-- after a write of this piece
abbrev pub after_write : SinkInMemory → List ℕ → SinkInMemory
after_write sink piece =
    if write_fails sink piece
    then record sink { plan = after_call true sink.plan }
    else record {
      room = sink.room - count_of sink piece;
      taken = sink.taken ++ take (count_of sink piece) piece;
      plan = after_call false sink.plan;
    }
