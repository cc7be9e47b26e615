use Rattle.prv_record.proofs.Room.{record_sized}
use Rattle.prv_record.proofs.payload.encode.Goals as goal

pub put_parts-requires-clause-sized : goal.put_parts-requires-clause-sized
put_parts-requires-clause-sized c = record_sized c.args.form c.args.raw.now c.requires.fields c.requires.small
