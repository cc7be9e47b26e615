use Rattle.prv_bits.proofs.ShiftLaws.{shift_up-is, shift_down-is, flip-shift_down}
use Rattle.prv_bits.proofs.shifts.stages.Goals as goal

pub returns-clause-up : goal.returns-clause-up
returns-clause-up c = shift_up-is

pub returns-clause-down : goal.returns-clause-down
returns-clause-down c = shift_down-is

pub returns-clause-ones : goal.returns-clause-ones
returns-clause-ones c = flip-shift_down
