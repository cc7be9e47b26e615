-- What one turn does to a board.
use Rattle.std.specs.Prelude.{◌≡◌, ℕ, ◌<◌, false}
use Rattle.prv_part.specs.Settlements.{Finding}
use Rattle.prv_board.specs.Slots.{is_claimable, NoneClaimable}
use Rattle.prv_board.specs.Replays.{Replay, with_one_more, slots, HasRegion, Applies, Refuses}
use Rattle.prv_board.specs.declared.error.ApplyError.TheVariants as board
use Rattle.prv_record.specs.declared.raw.Raw.{Raw}
use Rattle.prv_settle.specs.Settlings.{IsSettled}
use Rattle.prv_settle.specs.Supported.{finding_of}
use Rattle.prv_explore.specs.Explorations.{IsTurn}
use Rattle.prv_explore.specs.declared.turn.Turn.{Turn}
use Rattle.prv_explore.specs.declared.turn.Turn.TheVariants.{Made, Nothing, Full}

-- no entry below this number can be worked on
abbrev pub NoneBelow : Replay → ℕ → ℕ → Type 0
NoneBelow b first lines = (k : ℕ) → k < first → is_claimable (slots b) k lines ≡ false

-- what a turn made of a board: its settlement was applied; nothing can be worked on; or the board has no room for it. It is as before but for what was applied
abbrev pub Turned : Replay → Replay → ℕ → Turn → Type 0
Turned b after lines (Made entry) = (s : Finding) × (raw : Raw) × IsTurn b lines s raw × Applies b s × (after ≡ with_one_more b s) × (entry ≡ s.entry)
Turned b after lines Nothing = (after ≡ b) × NoneClaimable (slots b) 0 lines
Turned b after lines (Full reached) = (after ≡ b) × (s : Finding) × (raw : Raw) × IsTurn b lines s raw × Refuses b s (board.Full reached)

-- a settlement and its record are of an entry, with its region, and came of settling it with this budget
pub record IsOfEntry (b : Replay) (entry lines : ℕ) (s : Finding) (raw : Raw) : Type 0 where
  pub entry_is : s.entry ≡ entry
  pub region : HasRegion (slots b) s
  pub settled : IsSettled b.pair s.region entry lines raw
  pub finding_is : s ≡ finding_of b.pair s.region raw
