use Rattle.prv_record.proofs.Room.{first_fits}
use Rattle.prv_record.proofs.pair.encode_pair.Goals as goal

pub put_space-requires : goal.put_space-requires
put_space-requires c = (first_fits c.args.form c.args.turns c.args.space.now c.args.before.now c.args.after.now c.requires.space c.ranges.turns.fits c.requires.small).space

pub put_text-requires : goal.put_text-requires
put_text-requires c = (first_fits c.args.form c.args.turns c.args.space.now c.args.before.now c.args.after.now c.requires.space c.ranges.turns.fits c.requires.small).before

pub put_text-requires-2 : goal.put_text-requires-2
put_text-requires-2 c = (first_fits c.args.form c.args.turns c.args.space.now c.args.before.now c.args.after.now c.requires.space c.ranges.turns.fits c.requires.small).after
