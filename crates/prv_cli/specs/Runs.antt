-- `run FILE N..`: what the program of a file does on an input, with the turns that hold where no option is given.
use Rattle.std.specs.Prelude.{◌≡◌, ℕ, List, ℤ}
use Rattle.prv_model.specs.Outcomes.{outcome}
use Rattle.prv_model.specs.declared.program.Program.{Program}
use Rattle.prv_line.specs.declared.limits.TheConstants.{TURNS}
use Rattle.prv_text.specs.Outcomes.{outcome_text}
use Rattle.prv_cli.specs.Steps.{Step, Shown, answers, ◌>>=◌, ◌>>◌}
use Rattle.prv_cli.specs.Readings.{version, fits, IsMemory}
use Rattle.prv_cli.specs.declared.status.Status.TheVariants.{Done}
use Rattle.prv_cli.specs.declared.refusal.Who.TheVariants.{Only}

-- the text of the outcome
abbrev pub show_run : Program → List ℤ → Step Shown
show_run program input = answers (λ shown. shown ≡ record { text = outcome_text (outcome program TURNS.default input); status = Done }) IsMemory

abbrev pub run : List ℕ → List ℤ → Step Shown
run file input = do
  v ← version Only file
  fits input v.program.params
  show_run v.program input
