-- How the code's words, settings and commands stand for those of the definitions.
use Rattle.std.specs.Prelude.{ℕ, List, map}
use Rattle.std.specs.Option.{option_copied}
use Rattle.prv_line.specs.Commands.{Settings, Command, Run, Point, Slice, Explore, Live, Resume, Check, Gen}
use Rattle.prv_line.specs.declared.option.Settings as options
use Rattle.prv_line.specs.declared.command.Command as code
use Rattle.prv_line.specs.declared.command.Command.TheVariants as command
use denote.Ref.{Bor}

-- the texts of some words
abbrev pub texts : List (Bor (List ℕ)) → List (List ℕ)
texts words = map (λ w. w.now) words

abbrev pub settings_of : options.Settings → Settings
settings_of s = record { turns = s.turns; lines = s.lines; settlements = s.settlements; workers = s.workers; journal = option_copied s.journal }

abbrev pub command_of : code.Command → Command
command_of (command.Run file input) = Run file.now input
command_of (command.Point before after input) = Point before.now after.now input
command_of (command.Slice file input) = Slice file.now input
command_of (command.Explore before after turns plan workers journal) = Explore before.now after.now
    (record { turns = turns; lines = plan.lines; settlements = plan.settlements; workers = workers; journal = option_copied journal })
command_of (command.Live before after turns plan workers journal) = Live before.now after.now
    (record { turns = turns; lines = plan.lines; settlements = plan.settlements; workers = workers; journal = option_copied journal })
command_of (command.Resume journal plan workers) = Resume journal.now plan.lines plan.settlements workers
command_of (command.Check journal) = Check journal.now
command_of (command.Gen number size) = Gen number size
