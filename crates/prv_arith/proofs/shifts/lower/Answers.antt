use Rattle.std.proofs.Common.{◌≡◌, length, arith}
use Rattle.prv_arith.proofs.RunLaws.{lower-is}
use Rattle.prv_arith.proofs.shifts.lower.Goals as goal

pub returns : goal.returns
returns c = let w : length c.args.bits.now ≡ 32 = omega arith in lower-is 32 c.args.by c.args.filling c.args.bits.now c.copy_from_slice.new.self c.requires w c.copy_from_slice.ensures.after
