-- Counts of faults and of calls. In code they are 64-bit numbers that stand still at their type's end.
use Rattle.std.specs.Prelude.{ℕ, ◌+◌, ◌-◌, ◌^◌, ◌≤◌, min}

-- a count after one more
abbrev pub one_more : ℕ → ℕ
one_more count = min (count + 1) (2 ^ 64 - 1)

-- a count rose, or stands at the greatest 64-bit number, where it can't
abbrev pub Rose : ℕ → ℕ → Type 0
Rose before after = one_more before ≤ after
