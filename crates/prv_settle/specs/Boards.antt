-- Which records a board supports.
use Rattle.prv_board.specs.Replays.{Replay, Belongs}
use Rattle.prv_part.specs.Settlements.{Finding}
use Rattle.prv_record.specs.declared.raw.Raw.{Raw}
use Rattle.prv_settle.specs.Supported.{IsSupported}

-- a settlement and its record are supported on a board: the settlement is of the board's pair, a live entry of its number is open to it and has its region, and the record supports it
pub record IsSupportedOn (b : Replay) (f : Finding) (raw : Raw) : Type 0 where
  pub belongs : Belongs b f
  pub supported : IsSupported f raw
