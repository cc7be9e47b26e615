use Rattle.std.proofs.Common.{◌≤◌, length, arith}
use Rattle.prv_board.specs.Replays.{slots}
use Rattle.prv_text.specs.Boards.{names_of}
use Rattle.prv_text.proofs.Live.{live-next, live-end}
use Rattle.prv_text.proofs.board.push_live.Goals as goal

pub loop-number-preserved : goal.loop-number-preserved
loop-number-preserved c =
    let b = c.args.board.now.replay in
    live-next (names_of b) c.loop-number.number (slots b) c.loop-number.out.items c.push_live_entry.new.out.items _ c.loop-number.invariant c.in_ok-push_live_entry.ensures

pub returns : goal.returns
returns c =
    let b = c.args.board.now.replay in
    let past : length (slots b) ≤ c.loop-number.number = omega (arith, c.next_number-number-end.ensures, c.loop-number-test.false) in
    live-end (names_of b) c.loop-number.number (slots b) c.loop-number.out.items _ past c.loop-number.invariant
