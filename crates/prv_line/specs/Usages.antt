-- Which word is refused where words read as nothing. The reading is any relation of values and words.
use Rattle.std.specs.Prelude.{◌≡◌, ℕ, ◌+◌, ◌<◌, ◌≤◌, List, ◌++◌, length, take}
use Rattle.prv_line.specs.Readings.{Reads}

-- some value is read from the words and further ones
abbrev pub Begins : {V : Type 0} → (V → List (List ℕ) → Type 0) → List (List ℕ) → Type 0
Begins {V} R words = (more : List (List ℕ)) × (value : V) × R value (words ++ more)

-- the first k words begin a readable list, and with word k they begin none; where k is their count, they are too short
pub record IsRefused {V : Type 0} (R : V → List (List ℕ) → Type 0) (words : List (List ℕ)) (k : ℕ) : Type 0 where
  pub within : k ≤ length words
  pub begins : Begins R (take k words)
  pub refused : k < length words → Begins R (take (k + 1) words) → ⊥
  pub short : k ≡ length words → (value : V) → R value words → ⊥

-- the words read as no command, and word k is the first that is refused
abbrev pub IsUsage : List (List ℕ) → ℕ → Type 0
IsUsage words k = IsRefused Reads words k
