-- Whether a settlement applies to a board, as a test, and what becomes of a board that takes a settlement only where it applies.
use Rattle.std.specs.Prelude.{ℕ, ◌==◌, nat_le, Bool, true, false, ◌&&◌, List, Option, Some, option_map, if◌then◌else◌}
use Rattle.std.specs.Coded.{Coded, coded_list, coded_option}
use base.Stored.{Gv, gnil, gnum, gcons}
use Rattle.prv_model.specs.contracts.program.Pair as pair_row
use Rattle.prv_model.specs.declared.program.Pair.{Pair}
use Rattle.prv_model.specs.declared.term.Term.{Term}
use Rattle.prv_pool.specs.Tables.{term_code}
use Rattle.prv_part.specs.declared.part.Caps.{Caps}
use Rattle.prv_part.specs.Settlements.{Finding}
use Rattle.prv_board.specs.Slots.{Slot, part_at, is_open}
use Rattle.prv_board.specs.Replays.{Replay, with_one_more, slots, totals}
use Rattle.prv_board.specs.declared.totals.Totals.{Totals}

-- two codes are one
abbrev pub same_code : Gv → Gv → Bool
same_code gnil gnil = true
same_code (gnum m) (gnum n) = m == n
same_code (gcons a b) (gcons x y) = same_code a x && same_code b y
same_code _ _ = false

-- two values are one: their codes are, and a code stands for one value
unfoldable pub are_one : {A : Type 0} → Coded A → A → A → Bool
are_one c x y = same_code (c.code x) (c.code y)

-- a settlement is of this pair
abbrev pub is_of_pair : Pair → Finding → Bool
is_of_pair pair s = are_one (pair_row.the_row).coded s.pair pair

-- the live entry of a settlement has the settlement's region
abbrev pub has_region : List Slot → Finding → Bool
has_region slots s = are_one (coded_option (coded_list term_code)) (option_map (λ p. p.region) (part_at slots s.entry)) (Some s.region)

-- no total passes its cap
abbrev pub fits : Caps → Totals → Bool
fits caps t = nat_le t.entries caps.entries && (nat_le t.numbers caps.numbers && nat_le t.literals caps.literals)

-- a settlement applies to a board: it is of the board's pair, its entry is open to it, its region is the entry's, and the board stays within its caps
unfoldable pub applies : Replay → Finding → Bool
applies b s = is_of_pair b.pair s && (is_open (slots b) s && (has_region (slots b) s && fits b.caps (totals (with_one_more b s))))

-- what becomes of a board that takes a settlement only where it applies
abbrev pub absorbed : Replay → Finding → Replay
absorbed b s = if applies b s then with_one_more b s else b
