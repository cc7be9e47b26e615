-- `point OLD NEW N..`: how the versions of two files compare at an input, with the turns that hold where no option is given.
use Rattle.std.specs.Prelude.{◌≡◌, ℕ, List, ℤ}
use Rattle.prv_model.specs.declared.program.Pair.{Pair}
use Rattle.prv_model.specs.declared.entry.Entry.{Entry}
use Rattle.prv_model.specs.Comparison.{verdict}
use Rattle.prv_model.specs.Boards.{IsLegal, FirstHoldsOnly}
use Rattle.prv_line.specs.declared.limits.TheConstants.{TURNS}
use Rattle.prv_run.specs.Points.{point as point_entries}
use Rattle.prv_text.specs.Reports.{point_report}
use Rattle.prv_cli.specs.Statuses.{entries_status}
use Rattle.prv_cli.specs.Steps.{Step, Shown, answers, ◌>>=◌, ◌>>◌}
use Rattle.prv_cli.specs.Readings.{fits, IsMemory}
use Rattle.prv_cli.specs.Pairings.{pair_of_files}

-- the report and the status of a list of entries that say only what is true of every input, and of which the first holds this input alone
pub record IsPoint (pair : Pair) (input : List ℤ) (shown : Shown) : Type 0 where
  pub entries : List Entry
  pub entries_are : entries ≡ point_entries (verdict pair input) input
  pub legal : IsLegal pair entries
  pub first : FirstHoldsOnly pair.before.params entries input
  pub shown_is : shown ≡ record { text = point_report pair.before.names entries; status = entries_status entries }

abbrev pub show_point : Pair → List ℤ → Step Shown
show_point pair input = answers (IsPoint pair input) IsMemory

abbrev pub point : List ℕ → List ℕ → List ℤ → Step Shown
point before after input = do
  pair ← pair_of_files TURNS.default before after
  fits input pair.before.params
  show_point pair input
