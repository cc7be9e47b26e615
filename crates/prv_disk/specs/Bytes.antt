-- What a write does to the bytes of a disk.
use Rattle.std.specs.Prelude.{◌≡◌, ℕ, ◌+◌, ◌≤◌, List, ◌++◌, length, take, drop}

-- these bytes stand from `at` on, over what was there and past the end
abbrev pub overwritten : List ℕ → ℕ → List ℕ → List ℕ
overwritten file at piece = take at file ++ piece ++ drop (at + length piece) file

-- A write of so many bytes at `at` that is cut off: any bytes stand in the range, the length lies between the old and
-- the new end, and all else is as it was.
pub record Torn (at count : ℕ) (old new : List ℕ) : Type 0 where
  pub part : List ℕ
  pub within : length part ≤ count
  pub others : new ≡ take at old ++ part ++ drop (at + count) old
  pub no_shorter : length old ≤ length new
