-- What is applied to a board, in which order, and when a settlement may be.
use Rattle.std.specs.Prelude.{◌≡◌, refl, ℕ, ◌+◌, ◌^◌, ◌≤◌, Bool, true, false, List, [], ◌∷◌, ◌++◌, length, take, Some, option_map}
use Rattle.std.specs.Coded.{Coded, code_by, coded×, coded_ℕ, coded_list}
use Rattle.prv_model.specs.Boards.{one_if}
use Rattle.prv_model.specs.declared.entry.Kind.{Kind}
use Rattle.prv_model.specs.declared.entry.Kind.TheVariants as k
use Rattle.prv_model.specs.declared.program.Pair.{Pair}
use Rattle.prv_model.specs.contracts.program.Pair as pair_row
use Rattle.prv_model.specs.declared.term.Term.{Term}
use Rattle.prv_pool.specs.Tables.{term_code}
use Rattle.prv_part.specs.declared.part.Part.{Part}
use Rattle.prv_part.specs.declared.part.Caps.{Caps}
use Rattle.prv_part.specs.contracts.part.Caps as caps_row
use Rattle.prv_part.specs.Settlements.{Finding}
use Rattle.prv_part.specs.Codes.{finding_code}
use Rattle.prv_board.specs.Slots.{Slot, slots_of, live_parts, part_at, is_open}
use Rattle.prv_board.specs.declared.error.ApplyError.{ApplyError}
use Rattle.prv_board.specs.declared.error.ApplyError.TheVariants.{Stranger, Full, Memory}
use Rattle.prv_board.specs.declared.error.StrangerWhy.TheVariants as stranger
use Rattle.prv_board.specs.declared.counts.Counts.{Counts}
use Rattle.prv_board.specs.declared.totals.Totals.{Totals}

-- a board: the pair, the space that it covers, the most that it may hold, and the settlements that were applied, in order
pub record Replay : Type 0 where
  pub pair : Pair
  pub space : List Term
  pub caps : Caps
  pub history : List Finding

-- a board with no settlement yet
abbrev pub unsettled : Pair → List Term → Caps → Replay
unsettled pair space caps = record { pair = pair; space = space; caps = caps; history = [] }

-- the board with one more settlement
abbrev pub with_one_more : Replay → Finding → Replay
with_one_more b s = record { pair = b.pair; space = b.space; caps = b.caps; history = b.history ++ s ∷ [] }

-- the board of the first settlements of a board, so many of them
abbrev pub prefix : ℕ → Replay → Replay
prefix count b = record { pair = b.pair; space = b.space; caps = b.caps; history = take count b.history }

-- the entries of a board
abbrev pub slots : Replay → List Slot
slots b = slots_of b.space b.history

-- the sum of a number of each part
abbrev pub add_up : (Part → ℕ) → List Part → ℕ
add_up number [] = 0
add_up number (p ∷ ps) = number p + add_up number ps

-- the literals of some parts
abbrev pub literals_of : List Part → ℕ
literals_of = add_up (λ p. length p.region)

-- the numbers of some settlements, and the count of their parts
abbrev pub numbers_of : List Finding → ℕ
numbers_of [] = 0
numbers_of (s ∷ rest) = (s.numbers + length s.parts) + numbers_of rest

-- how much a board holds: its live entries, the numbers of its settlements with the count of their parts, and the literals of its live entries
abbrev pub totals : Replay → Totals
totals b = record {
  entries = length (live_parts (slots b));
  numbers = numbers_of b.history;
  literals = literals_of (live_parts (slots b));
}

-- no total passes its cap
pub record Fits (caps : Caps) (t : Totals) : Type 0 where
  pub entries : t.entries ≤ caps.entries
  pub numbers : t.numbers ≤ caps.numbers
  pub literals : t.literals ≤ caps.literals

-- caps that a board may have
pub record AreCaps (caps : Caps) : Type 0 where
  pub some_entries : 1 ≤ caps.entries
  pub few_entries : caps.entries ≤ 2 ^ 30
  pub some_numbers : 1 ≤ caps.numbers
  pub few_numbers : caps.numbers ≤ 2 ^ 31
  pub some_literals : 1 ≤ caps.literals
  pub few_literals : caps.literals ≤ 2 ^ 48

-- the live entry of a settlement has the settlement's region
abbrev pub HasRegion : List Slot → Finding → Type 0
HasRegion slots s = option_map (λ p. p.region) (part_at slots s.entry) ≡ Some s.region

-- a settlement belongs to a board: it is of the board's pair, its entry is open to it, and its region is the entry's
pub record Belongs (b : Replay) (s : Finding) : Type 0 where
  pub same_pair : s.pair ≡ b.pair
  pub open_entry : is_open (slots b) s ≡ true
  pub same_region : HasRegion (slots b) s

-- a settlement applies to a board: it belongs to it, and the board stays within its caps
pub record Applies (b : Replay) (s : Finding) : Type 0 where
  pub belongs : Belongs b s
  pub fits : Fits b.caps (totals (with_one_more b s))

-- settlements apply one after the other
abbrev pub ApplyInTurn : Replay → List Finding → Type 0
ApplyInTurn b [] = Unit {0}
ApplyInTurn b (s ∷ rest) = Applies b s × ApplyInTurn (with_one_more b s) rest

-- each settlement of a board applies to the board of those before it
abbrev pub IsReplay : Replay → Type 0
IsReplay b = ApplyInTurn (unsettled b.pair b.space b.caps) b.history

-- why a board refuses a settlement; want of memory is always a reason
abbrev pub Refuses : Replay → Finding → ApplyError → Type 0
Refuses b s (Stranger stranger.Pair) = ¬ (s.pair ≡ b.pair)
Refuses b s (Stranger (stranger.NotLive entry)) = (entry ≡ s.entry) × (s.pair ≡ b.pair) × (is_open (slots b) s ≡ false)
Refuses b s (Stranger (stranger.Region entry)) = (entry ≡ s.entry) × (s.pair ≡ b.pair) × (is_open (slots b) s ≡ true) × ¬ HasRegion (slots b) s
Refuses b s (Stranger (stranger.NotOut entry)) = ⊥
Refuses b s (Stranger (stranger.Entry found given)) = ⊥
Refuses b s (Full reached) = Belongs b s × (reached ≡ totals (with_one_more b s)) × ¬ Fits b.caps reached
Refuses b s Memory = Unit {0}

-- how many parts have a kind that passes a test
abbrev pub count_kind : (Kind → Bool) → List Part → ℕ
count_kind test = add_up (λ p. one_if (test p.kind))

abbrev pub is_same : Kind → Bool
is_same k.Same = true
is_same _ = false

abbrev pub is_different : Kind → Bool
is_different (k.Different sample) = true
is_different _ = false

abbrev pub is_empty : Kind → Bool
is_empty k.Empty = true
is_empty _ = false

abbrev pub is_beyond : Kind → Bool
is_beyond k.Beyond = true
is_beyond _ = false

abbrev pub is_unexplored : Kind → Bool
is_unexplored k.Unexplored = true
is_unexplored _ = false

abbrev pub is_undecided : Kind → Bool
is_undecided (k.Undecided reason) = true
is_undecided _ = false

-- one entry, by its kind
abbrev pub counts_of_kind : Kind → Counts
counts_of_kind kind = record {
  same = one_if (is_same kind);
  different = one_if (is_different kind);
  empty = one_if (is_empty kind);
  beyond = one_if (is_beyond kind);
  unexplored = one_if (is_unexplored kind);
  undecided = one_if (is_undecided kind);
}

-- how many parts there are of each kind
abbrev pub counts_of : List Part → Counts
counts_of parts = record {
  same = count_kind is_same parts;
  different = count_kind is_different parts;
  empty = count_kind is_empty parts;
  beyond = count_kind is_beyond parts;
  unexplored = count_kind is_unexplored parts;
  undecided = count_kind is_undecided parts;
}

-- a board is stored as the tuple of its fields
abbrev pub replay_code : Coded Replay
replay_code =
    code_by
    (Pair × (List Term × (Caps × List Finding)))
    (coded× (pair_row.the_row).coded (coded× (coded_list term_code) (coded× (caps_row.the_row).coded (coded_list finding_code))))
    (λ b. (b.pair, (b.space, (b.caps, b.history))))
    (λ p. record { pair = p.0; space = p.1.0; caps = p.1.1.0; history = p.1.1.1 })
    (λ _. refl)

-- what contracts see: a board, and the number of parts for which room is kept
pub record BoardView : Type 0 where
  pub replay : Replay
  pub spare : ℕ

-- a settlement applies to a board, which has room for its parts
pub record IsReady (v : BoardView) (s : Finding) : Type 0 where
  pub applies : Applies v.replay s
  pub room : length s.parts ≤ v.spare

abbrev pub view_code : Coded BoardView
view_code =
    code_by (Replay × ℕ) (coded× replay_code coded_ℕ) (λ v. (v.replay, v.spare)) (λ p. record { replay = p.0; spare = p.1 }) (λ _. refl)
