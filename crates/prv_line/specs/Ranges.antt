-- The ranges in which the numbers of a command lie.
use Rattle.std.specs.Prelude.{ℕ, ◌≤◌, ⊤}
use Rattle.prv_line.specs.declared.limits.TheConstants.{TURNS, LINES, SETTLEMENTS, WORKERS}
use Rattle.prv_line.specs.Commands.{Settings, defaults, Command, Run, Point, Slice, Explore, Live, Resume, Check, Gen}

-- each number of some settings is in its option's range
pub record AreInRange (s : Settings) : Type 0 where
  pub some_turns : TURNS.least ≤ s.turns
  pub few_turns : s.turns ≤ TURNS.most
  pub some_lines : LINES.least ≤ s.lines
  pub few_lines : s.lines ≤ LINES.most
  pub some_settlements : SETTLEMENTS.least ≤ s.settlements
  pub few_settlements : s.settlements ≤ SETTLEMENTS.most
  pub few_workers : s.workers ≤ WORKERS.most

-- so is each number of a command's options, and a generated pair has 1 to 50 tests
abbrev pub IsInRange : Command → Type 0
IsInRange (Explore before after settings) = AreInRange settings
IsInRange (Live before after settings) = AreInRange settings
IsInRange (Resume journal lines settlements workers) = AreInRange (record defaults { lines = lines; settlements = settlements; workers = workers })
IsInRange (Gen number size) = (1 ≤ size) × (size ≤ 50)
IsInRange _ = ⊤
