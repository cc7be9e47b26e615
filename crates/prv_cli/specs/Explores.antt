-- `explore OLD NEW`: what is found of the pair of two files over all inputs.
use Rattle.std.specs.Prelude.{◌≡◌, ℕ, ◌==◌, Bool, ◌&&◌, is_none, List}
use Rattle.prv_model.specs.declared.program.Pair.{Pair}
use Rattle.prv_line.specs.Commands.{Settings}
use Rattle.prv_board.specs.Replays.{Replay}
use Rattle.prv_board.specs.Legality.{IsLegalBoard}
use Rattle.prv_board.specs.declared.ended.Ended.{Ended}
use Rattle.prv_explore.specs.Explorations.{IsExploration}
use Rattle.prv_explore.specs.declared.plan.Plan.{Plan}
use Rattle.prv_text.specs.Boards.{board_report}
use Rattle.prv_text.specs.declared.last.Last.{Last}
use Rattle.prv_text.specs.declared.last.Last.TheVariants as last
use Rattle.prv_cli.specs.Statuses.{board_status}
use Rattle.prv_cli.specs.Steps.{Step, Shown, answers, ◌>>=◌}
use Rattle.prv_cli.specs.Readings.{IsMemory}
use Rattle.prv_cli.specs.Pairings.{pair_of_files}

-- how much work is to be done
abbrev pub plan_of : Settings → Plan
plan_of settings = record { lines = settings.lines; settlements = settings.settlements }

-- an exploration of the pair by the plan, whose board is legal, is shown by this text, with the status of its board
pub record ShowsExploration (text_of : Replay → Last → List ℕ) (plan : Plan) (pair : Pair) (shown : Shown) : Type 0 where
  pub board : Replay
  pub ended : Ended
  pub explored : IsExploration pair plan board ended
  pub legal : IsLegalBoard board
  pub shown_is : shown ≡ record { text = text_of board (last.Ended ended); status = board_status board }

-- some exploration is shown: which, is up to what the solver finds
abbrev pub show_exploration : (Replay → Last → List ℕ) → Plan → Pair → Step Shown
show_exploration text_of plan pair = answers (ShowsExploration text_of plan pair) IsMemory

-- no worker is asked for, and no journal
abbrev pub is_plain : Settings → Bool
is_plain settings = (settings.workers == 0) && is_none settings.journal

-- with so many turns, by this plan
abbrev pub explore_with : ℕ → Plan → List ℕ → List ℕ → Step Shown
explore_with turns plan before after = do
  pair ← pair_of_files turns before after
  show_exploration board_report plan pair

abbrev pub explore : List ℕ → List ℕ → Settings → Step Shown
explore before after settings = explore_with settings.turns (plan_of settings) before after
