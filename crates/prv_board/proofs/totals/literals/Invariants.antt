use Rattle.std.proofs.Common.{◌≡◌, ◌+◌, drop}
use Rattle.prv_board.specs.Replays.{literals_of}
use Rattle.prv_board.proofs.totals.literals.Given as goal

abbrev pub invariant-loop-part : goal.invariant-loop-part
invariant-loop-part l = l.count + literals_of (drop l.part-index l.parts) ≡ literals_of l.parts
