use Rattle.std.proofs.Common.{◌∙◌}
use Rattle.prv_board.specs.Slots.{live_parts}
use Rattle.prv_board.specs.Replays.{slots}
use Rattle.prv_cli.proofs.Counted.{status-counted}
use Rattle.prv_cli.proofs.status.board_status.Goals as goal

pub returns : goal.returns
returns c = c.status_of.ensures ∙ status-counted (live_parts (slots c.args.board.now.replay)) c.counts.result c.counts.ensures.value
