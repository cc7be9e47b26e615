-- What a board keeps of its fields.
use Rattle.std.specs.Prelude.{◌≡◌, ◌∷◌, ◌+◌, ◌≤◌, ◌<◌, ◌^◌, List, length, map, Option, vec_len, vec_capacity}
use Rattle.std.specs.List.{AllByRecursion}
use Rattle.std.specs.Arc.{arc_value}
use Rattle.prv_part.specs.Settlements.{IsSettlement}
use Rattle.prv_part.specs.Parts.{IsOver}
use Rattle.prv_part.specs.declared.part.Part.{Part}
use Rattle.prv_board.specs.Slots.{live_parts, whole}
use Rattle.prv_board.specs.Replays.{Replay, BoardView, AreCaps, Fits, IsReplay, slots, totals, counts_of}
use Rattle.prv_board.specs.Trees.{Stand, AreRetired, origins_all}
use Rattle.prv_board.specs.declared.counts.Counts.{Counts}
use Rattle.prv_board.specs.declared.totals.Totals.{Totals}
use Rattle.prv_board.specs.declared.tree.Origin.{Origin}
use Rattle.prv_board.specs.declared.tree.Origin.TheVariants.{Space}
use Rattle.prv_board.specs.declared.tree.Retired.{Retired}
use Rattle.prv_board.specs.declared.board.Board.TheInside.{Inside}

abbrev pub replay_of : Inside → Replay
replay_of i = record {
  pair = arc_value i.pair;
  space = i.whole.region;
  caps = i.caps;
  history = map (λ s. arc_value s) i.settlements.items;
}

abbrev pub seen : Inside → BoardView
seen i = record { replay = replay_of i; spare = i.spare }

-- a tree of entries, their counts and totals stand for a board, which is a replay of settlements
pub record IsTree (b : Replay) (root : Part) (os : List Origin) (rs : List (Option Retired)) (tally : Counts) (sums : Totals) : Type 0 where
  pub caps : AreCaps b.caps
  pub first : root ≡ whole b.space
  pub few : length b.space ≤ 2
  pub room : length b.space ≤ b.caps.literals
  pub over : IsOver b.pair.before.params b.space
  pub replay : IsReplay b
  pub settlements : AllByRecursion IsSettlement b.history
  pub origins : os ≡ Space ∷ origins_all 0 b.history
  pub stand : Stand root b.history os rs (slots b)
  pub retired : AreRetired root b.history os rs
  pub counts : tally ≡ counts_of (live_parts (slots b))
  pub totals : sums ≡ totals b
  pub fits : Fits b.caps sums
  pub few_made : length os ≤ 1 + sums.numbers

-- the fields stand for a board, and room is kept for a settlement with the spare number of parts
pub record AreKept (i : Inside) : Type 0 where
  pub tree : IsTree (replay_of i) i.whole i.origins.items i.retired.items i.counts i.totals
  pub room_in_origins : vec_len i.origins + i.spare ≤ vec_capacity i.origins
  pub room_in_retired : vec_len i.retired + i.spare ≤ vec_capacity i.retired
  pub room_for_one : 0 < i.spare → vec_len i.settlements < vec_capacity i.settlements
