use Rattle.std.proofs.Common.{sym, length}
use Rattle.prv_gate.proofs.Examination.{forces-one}
use Rattle.prv_gate.proofs.propagate.visit.Goals as goal

pub learn-requires : goal.learn-requires
learn-requires c = (forces-one c.args.known.now (length c.args.known.now) c.in-Forces.lit c.args.lits.now c.requires (sym c.in-Forces.ensures)).3
