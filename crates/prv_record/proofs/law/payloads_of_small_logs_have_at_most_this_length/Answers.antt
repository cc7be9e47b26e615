use Rattle.std.proofs.Common.{arith}
use Rattle.prv_record.proofs.SecondForm.{payload-few}
use Rattle.prv_record.proofs.law.payloads_of_small_logs_have_at_most_this_length.Goals as goal

pub returns : goal.returns
returns c = payload-few c.args.raw.now c.requires.fields c.requires.lines (omega (arith, c.requires.small))
