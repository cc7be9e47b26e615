use Rattle.prv_line.proofs.Reading.{ReadSoFar}
use Rattle.prv_line.proofs.input.read_input.Given as goal

abbrev pub invariant-loop-index : goal.invariant-loop-index
invariant-loop-index l = ReadSoFar l.words l.index l.input
