use Rattle.std.proofs.Common.{drop}
use Rattle.prv_board.specs.Counting.{IsRest}
use Rattle.prv_board.specs.Replays.{counts_of}
use Rattle.prv_board.proofs.counts.Counts.plus_parts.Given as goal

abbrev pub invariant-loop-part : goal.invariant-loop-part
invariant-loop-part l = IsRest l.made (counts_of (drop l.part-index l.parts)) l.fn.self (counts_of l.parts)
