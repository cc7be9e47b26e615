-- `gen NUMBER SIZE`: the exploration of a generated pair, with the numbers that hold where no option is given.
use Rattle.std.specs.Prelude.{ℕ}
use Rattle.prv_gen.specs.Generated.{before_text, after_text}
use Rattle.prv_line.specs.Commands.{defaults}
use Rattle.prv_text.specs.Boards.{generated_report}
use Rattle.prv_cli.specs.Steps.{Step, Shown, ◌>>=◌}
use Rattle.prv_cli.specs.Pairings.{pair_of_texts}
use Rattle.prv_cli.specs.Explores.{plan_of, show_exploration}

abbrev pub generate : ℕ → ℕ → Step Shown
generate number size = do
  pair ← pair_of_texts defaults.turns (before_text number size) (after_text number size)
  show_exploration (generated_report number size) (plan_of defaults) pair
