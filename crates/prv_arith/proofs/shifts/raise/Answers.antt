use Rattle.std.proofs.Common.{◌≡◌, ◌-◌, ◌∙◌, length, arith}
use Rattle.prv_arith.proofs.RunLaws.{raise-is, take-rest}
use Rattle.prv_arith.proofs.shifts.raise.Goals as goal

pub returns : goal.returns
returns c = let w : length c.args.bits.now ≡ 32 = omega arith in raise-is 32 c.args.by c.args.bits.now c.copy_from_slice.new.self c.requires w (c.copy_from_slice.ensures.after ∙ take-rest c.args.by (32 - c.args.by) c.args.bits.now (omega arith))
