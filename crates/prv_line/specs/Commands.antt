-- The commands, and what the options of one settle.
use Rattle.std.specs.Prelude.{ℕ, List, ℤ, Option, None}
use Rattle.prv_line.specs.declared.limits.TheConstants.{TURNS, LINES, SETTLEMENTS, WORKERS}

-- how explore, live and resume go about it, and the name of the journal, where one is kept
pub record Settings : Type 0 where
  pub turns : ℕ
  pub lines : ℕ
  pub settlements : ℕ
  pub workers : ℕ
  pub journal : Option (List ℕ)

-- what holds where no option is given
abbrev pub defaults : Settings
defaults = record { turns = TURNS.default; lines = LINES.default; settlements = SETTLEMENTS.default; workers = WORKERS.default; journal = None }

pub data Command : Type 0 where
  Run : (file : List ℕ) (input : List ℤ) → Command
  Point : (before after : List ℕ) (input : List ℤ) → Command
  Slice : (file : List ℕ) (input : List ℤ) → Command
  Explore : (before after : List ℕ) (settings : Settings) → Command
  Live : (before after : List ℕ) (settings : Settings) → Command
  Resume : (journal : List ℕ) (lines settlements workers : ℕ) → Command
  Check : (journal : List ℕ) → Command
  Gen : (number size : ℕ) → Command
