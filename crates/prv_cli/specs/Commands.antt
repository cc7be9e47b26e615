-- What each command does.
use Rattle.std.specs.Prelude.{◌≡◌, ℕ, Bool, true, false, List, ⊤}
use Rattle.prv_line.specs.Commands.{Command, Run, Point, Slice, Explore, Gen}
use Rattle.prv_line.specs.Readings.{Reads}
use Rattle.prv_line.specs.Usages.{IsUsage}
use Rattle.prv_cli.specs.Steps.{Step, writes, answers, ◌>>=◌}
use Rattle.prv_cli.specs.Runs.{run}
use Rattle.prv_cli.specs.Points.{point}
use Rattle.prv_cli.specs.Slices.{slice}
use Rattle.prv_cli.specs.Explores.{is_plain, explore}
use Rattle.prv_cli.specs.Generates.{generate}
use Rattle.prv_cli.specs.declared.status.Status.{Status}
use Rattle.prv_cli.specs.declared.refusal.Refusal.{Refusal}
use Rattle.prv_cli.specs.declared.refusal.Refusal.TheVariants as refusal

-- a command that isn't built yet is refused, and does nothing
abbrev pub not_built : Step Status
not_built = answers (λ _. ⊥) (λ why. why ≡ refusal.Later)

-- a step that is built for plain settings alone
abbrev pub where_plain : Bool → Step Status → Step Status
where_plain true step = step
where_plain false step = not_built

-- what a command does
abbrev pub does : Command → Step Status
does (Run file input) = run file input >>= writes
does (Point before after input) = point before after input >>= writes
does (Slice file input) = slice file input >>= writes
does (Explore before after settings) = where_plain (is_plain settings) (explore before after settings >>= writes)
does (Gen number size) = generate number size >>= writes
does _ = not_built

-- why words read as no command
abbrev pub ReadsNone : List (List ℕ) → Refusal → Type 0
ReadsNone words (refusal.Usage word) = IsUsage words word
ReadsNone words refusal.Memory = ⊤
ReadsNone words _ = ⊥

-- the command that words read as
abbrev pub command : List (List ℕ) → Step Command
command words = answers (λ c. Reads c words) (ReadsNone words)

-- what the words of the command line do
abbrev pub says : List (List ℕ) → Step Status
says words = command words >>= does
