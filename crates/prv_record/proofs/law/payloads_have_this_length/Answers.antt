use Rattle.prv_record.proofs.Lengths.{payload-width}
use Rattle.prv_record.proofs.law.payloads_have_this_length.Goals as goal

pub returns : goal.returns
returns c = payload-width c.args.raw.now c.requires.table
