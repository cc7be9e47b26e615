use Rattle.std.proofs.Common.{◌≡◌, ◌++◌, drop, flat_map}
use Rattle.prv_board.specs.Replays.{slots}
use Rattle.prv_text.specs.Entries.{entry_line}
use Rattle.prv_text.specs.Boards.{live_from, live_entries, names_of}
use Rattle.prv_text.proofs.board.push_live.Given as goal

-- the lines so far and those that are left are all of them
abbrev pub invariant-loop-number : goal.invariant-loop-number
invariant-loop-number l =
    l.out.items ++ flat_map (entry_line (names_of l.board.replay)) (live_from l.number (drop l.number (slots l.board.replay)))
    ≡ l.initial.out.items ++ flat_map (entry_line (names_of l.board.replay)) (live_entries l.board.replay)
