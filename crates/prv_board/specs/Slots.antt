-- The entries of a board: a settlement retires the entry that it settles, and appends its parts.
use Rattle.std.specs.Prelude.{◌≡◌, ℕ, zero, suc, ◌<◌, ◌≤◌, nat_lt, nat_le, Bool, true, false, not, List, [], ◌∷◌, ◌++◌, map, Option, Some, None, option_and_then, option_to_list, slice_get, if◌then◌else◌}
use Rattle.std.specs.List.{list_any}
use Rattle.prv_model.specs.declared.entry.Kind.{Kind}
use Rattle.prv_model.specs.declared.entry.Kind.TheVariants.{Unexplored, Undecided}
use Rattle.prv_model.specs.declared.entry.Reason.TheVariants.{Lines}
use Rattle.prv_model.specs.declared.term.Term.{Term}
use Rattle.prv_part.specs.declared.part.Part.{Part}
use Rattle.prv_part.specs.Settlements.{Finding}

-- an entry and whether it is live; its number is its place in the list of entries
pub record Slot : Type 0 where
  pub part : Part
  pub live : Bool

-- an entry that wasn't settled yet
abbrev pub live_slot : Part → Slot
live_slot part = record { part = part; live = true }

-- what the first entry says: all of the space is unexplored
abbrev pub whole : List Term → Part
whole space = record { region = space; kind = Unexplored; marks = [] }

-- the entries, of which the one with this number is retired
abbrev pub retire : List Slot → ℕ → List Slot
retire [] n = []
retire (slot ∷ slots) zero = record { part = slot.part; live = false } ∷ slots
retire (slot ∷ slots) (suc n) = slot ∷ retire slots n

-- the entries after a settlement: its entry is retired, and its parts are appended in order
abbrev pub after : List Slot → Finding → List Slot
after slots s = retire slots s.entry ++ map live_slot s.parts

-- the entries after some settlements, one after the other
abbrev pub after_all : List Slot → List Finding → List Slot
after_all slots [] = slots
after_all slots (s ∷ rest) = after_all (after slots s) rest

-- the entries of a board over a space
abbrev pub slots_of : List Term → List Finding → List Slot
slots_of space history = after_all (live_slot (whole space) ∷ []) history

-- what an entry says while it is live
abbrev pub live_part : Slot → Option Part
live_part slot = if slot.live then Some slot.part else None

-- what the live entries say, in the order of their numbers
abbrev pub live_parts : List Slot → List Part
live_parts [] = []
live_parts (slot ∷ slots) = option_to_list (live_part slot) ++ live_parts slots

-- what the live entry of this number says; none where no live entry has the number
abbrev pub part_at : List Slot → ℕ → Option Part
part_at slots n = option_and_then live_part (slice_get slots n)

-- a kind says that nothing was decided within a budget of lines, or within a smaller one
abbrev pub is_left_within : ℕ → Kind → Bool
is_left_within budget (Undecided (Lines spent)) = nat_le spent budget
is_left_within budget _ = false

-- parts may take the place of an entry of this kind: it was unexplored, or left for want of lines and none of the parts is left with as few
abbrev pub may_replace : List Part → Kind → Bool
may_replace parts Unexplored = true
may_replace parts (Undecided (Lines budget)) = not (list_any (λ p. is_left_within budget p.kind) parts)
may_replace parts _ = false

abbrev pub may_replace_part : List Part → Option Part → Bool
may_replace_part parts None = false
may_replace_part parts (Some part) = may_replace parts part.kind

-- the entry of a settlement is open to it
abbrev pub is_open : List Slot → Finding → Bool
is_open slots s = may_replace_part s.parts (part_at slots s.entry)

-- an entry of this kind can be worked on with a budget of lines
abbrev pub is_claimable_kind : ℕ → Kind → Bool
is_claimable_kind budget Unexplored = true
is_claimable_kind budget (Undecided (Lines spent)) = nat_lt spent budget
is_claimable_kind budget _ = false

abbrev pub is_claimable_part : ℕ → Option Part → Bool
is_claimable_part budget None = false
is_claimable_part budget (Some part) = is_claimable_kind budget part.kind

-- the entry of this number is live, and can be worked on with this budget
abbrev pub is_claimable : List Slot → ℕ → ℕ → Bool
is_claimable slots n budget = is_claimable_part budget (part_at slots n)

-- n is the least number from a first one on whose entry can be worked on with this budget
pub record IsNextClaimable (slots : List Slot) (first budget n : ℕ) : Type 0 where
  pub later : first ≤ n
  pub claimable : is_claimable slots n budget ≡ true
  pub others : (k : ℕ) → first ≤ k → k < n → is_claimable slots k budget ≡ false

-- no entry from a number on can be worked on with this budget
abbrev pub NoneClaimable : List Slot → ℕ → ℕ → Type 0
NoneClaimable slots first budget = (k : ℕ) → first ≤ k → is_claimable slots k budget ≡ false
