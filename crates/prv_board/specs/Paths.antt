-- Which entries hold an input, and the path of entries down to the live one.
use Rattle.std.specs.Prelude.{◌≡◌, ℕ, ◌+◌, ◌<◌, true, List, [], ◌∷◌, ◌++◌, ℤ, Some, option_map, slice_get}
use Rattle.prv_model.specs.Terms.{holds}
use Rattle.prv_part.specs.declared.part.Part.{Part}
use Rattle.prv_board.specs.Slots.{Slot, part_at}
use Rattle.prv_board.specs.Replays.{Replay, slots}
use Rattle.prv_board.specs.Parents.{parent_of}

-- an entry, live or retired, holds an input
pub record Holds (entries : List Slot) (x : List ℤ) (n : ℕ) : Type 0 where
  pub slot : Slot
  pub at : slice_get entries n ≡ Some slot
  pub inside : holds slot.part.region x ≡ true

-- an entry is live and holds an input, and no other live entry does
pub record HoldsAlone (entries : List Slot) (x : List ℤ) (n : ℕ) : Type 0 where
  pub part : Part
  pub live : part_at entries n ≡ Some part
  pub inside : holds part.region x ≡ true
  pub others : (k : ℕ) (other : Part) → part_at entries k ≡ Some other → holds other.region x ≡ true → k ≡ n

-- an entry comes from another one, has a greater number, and holds an input
pub record IsStep (b : Replay) (x : List ℤ) (n m : ℕ) : Type 0 where
  pub later : n < m
  pub parent : option_map (λ p. p.entry) (parent_of b.history m) ≡ Some n
  pub holds : Holds (slots b) x m

-- a way down to an entry: it begins with 0 and ends with the entry, each number's parent is the one before it, and each entry holds the input
pub record IsWayTo (b : Replay) (x : List ℤ) (path : List ℕ) (n : ℕ) : Type 0 where
  pub first : slice_get path 0 ≡ Some 0
  pub parents : (i k m : ℕ) → slice_get path i ≡ Some k → slice_get path (i + 1) ≡ Some m → option_map (λ p. p.entry) (parent_of b.history m) ≡ Some k
  pub inside : (i k : ℕ) → slice_get path i ≡ Some k → Holds (slots b) x k
  pub last : (front : List ℕ) × (path ≡ front ++ n ∷ [])

-- a path to an input: a way down to the one live entry that holds it
abbrev pub IsPath : Replay → List ℤ → List ℕ → Type 0
IsPath b x path = (n : ℕ) × IsWayTo b x path n × HoldsAlone (slots b) x n
