-- Where bytes go wrong that are none of a set of lists of bytes.
use Rattle.std.specs.Prelude.{ℕ, ◌+◌, ◌≤◌, ◌<◌, List, ◌++◌, length, take}

-- some list of the set begins so
abbrev pub Begins : (List ℕ → Type 0) → List ℕ → Type 0
Begins P front = (more : List ℕ) × P (front ++ more)

-- the bytes are no list of the set: some list of the set begins as they do before the offset, and none goes on with the byte there; at the bytes' length they are only too short
pub record GoesWrongAt (P : List ℕ → Type 0) (bytes : List ℕ) (offset : ℕ) : Type 0 where
  pub within : offset ≤ length bytes
  pub before : Begins P (take offset bytes)
  pub no_further : offset < length bytes → Begins P (take (offset + 1) bytes) → ⊥
  pub none : P bytes → ⊥
