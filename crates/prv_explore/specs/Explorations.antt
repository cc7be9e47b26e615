-- What an exploration is: turns one after the other, each the settlement of the least entry that can be worked on.
use Rattle.std.specs.Prelude.{◌≡◌, ℕ, ◌<◌, ◌≤◌, true, ⊤, List, [], ◌∷◌, length}
use Rattle.prv_model.specs.declared.program.Pair.{Pair}
use Rattle.prv_part.specs.Settlements.{Finding}
use Rattle.prv_part.specs.declared.part.Caps.{Caps}
use Rattle.prv_board.specs.Slots.{is_claimable, IsNextClaimable, NoneClaimable}
use Rattle.prv_board.specs.Replays.{Replay, unsettled, with_one_more, slots, HasRegion, IsReplay, Refuses}
use Rattle.prv_board.specs.declared.error.ApplyError.TheVariants as board
use Rattle.prv_record.specs.declared.raw.Raw.{Raw}
use Rattle.prv_settle.specs.Settlings.{IsSettled}
use Rattle.prv_settle.specs.Supported.{finding_of, IsSupported}
use Rattle.prv_explore.specs.declared.plan.Plan.{Plan}
use Rattle.prv_board.specs.declared.ended.Ended.{Ended}
use Rattle.prv_board.specs.declared.ended.Ended.TheVariants.{Done, Full, Stop, Settlements}

-- the most that the board of an exploration may hold
abbrev pub board_caps : Caps
board_caps = record { entries = 200000; numbers = 2000000000; literals = 50000000 }

-- a settlement is a turn on a board: its entry is the least that can be worked on, with that entry's region, and settling the region with this budget came to the record that gives and supports it
pub record IsTurn (b : Replay) (lines : ℕ) (s : Finding) (raw : Raw) : Type 0 where
  pub least : IsNextClaimable (slots b) 0 lines s.entry
  pub region : HasRegion (slots b) s
  pub settled : IsSettled b.pair s.region s.entry lines raw
  pub finding_is : s ≡ finding_of b.pair s.region raw
  pub supported : IsSupported s raw

-- some settlements are turns, one after the other
abbrev pub AreTurns : Replay → ℕ → List Finding → Type 0
AreTurns b lines [] = ⊤
AreTurns b lines (s ∷ rest) = ((raw : Raw) × IsTurn b lines s raw) × AreTurns (with_one_more b s) lines rest

-- why a board is left: nothing on it can be worked on; the next turn belongs to it, but would pass a cap with these totals; or so many settlements were made, and something can be worked on. No stop is asked for
abbrev pub EndsAs : Replay → Plan → Ended → Type 0
EndsAs b plan Done = NoneClaimable (slots b) 0 plan.lines
EndsAs b plan (Full reached) =
    (length b.history < plan.settlements) × (s : Finding) × (raw : Raw) × IsTurn b plan.lines s raw × Refuses b s (board.Full reached)
EndsAs b plan Stop = ⊥
EndsAs b plan (Settlements limit) = (limit ≡ plan.settlements) × (length b.history ≡ limit) × (n : ℕ) × (is_claimable (slots b) n plan.lines ≡ true)

-- a board with these caps is an exploration of a pair over all inputs, which ended for this reason
pub record IsExplorationWithin (caps : Caps) (pair : Pair) (plan : Plan) (b : Replay) (ended : Ended) : Type 0 where
  pub board_is : b ≡ record { pair = pair; space = []; caps = caps; history = b.history }
  pub turns : AreTurns (unsettled pair [] caps) plan.lines b.history
  pub replay : IsReplay b
  pub few : length b.history ≤ plan.settlements
  pub ends : EndsAs b plan ended

-- with the caps that every exploration has
abbrev pub IsExploration : Pair → Plan → Replay → Ended → Type 0
IsExploration pair plan b ended = IsExplorationWithin board_caps pair plan b ended

-- some record supports a settlement
abbrev pub HasSupport : Finding → Type 0
HasSupport s = (raw : Raw) × IsSupported s raw
