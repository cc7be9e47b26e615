use Rattle.std.proofs.Common.{Some}
use Rattle.prv_part.specs.declared.shape.Shape.TheVariants as s
use Rattle.prv_record.specs.declared.raw.RawOther.TheVariants as o
use Rattle.prv_settle.specs.Settlings.{raw_of}
use Rattle.prv_settle.proofs.Halving.{cut-long, whole-made}
use Rattle.prv_settle.proofs.Stepping.{may-settle-at, settling-at}
use Rattle.prv_settle.proofs.halves.whole.Goals as goal

pub whole_parts-requires-clause-region : goal.whole_parts-requires-clause-region
whole_parts-requires-clause-region c = cut-long _ _ _ _ c.requires.halves.cut

pub whole_parts-requires-clause-nodes : goal.whole_parts-requires-clause-nodes
whole_parts-requires-clause-nodes c = c.requires.halves.cut.nodes

pub whole_parts-requires-clause-room : goal.whole_parts-requires-clause-room
whole_parts-requires-clause-room c = c.requires.halves.room

pub seal-requires-clause-grounds : goal.seal-requires-clause-grounds
seal-requires-clause-grounds c = may-settle-at c.args.task.now c.args.member s.Whole (Some c.args.member) o.None c.args.proof c.requires.member c.requires.settled

pub seal-requires-clause-parts : goal.seal-requires-clause-parts
seal-requires-clause-parts c = whole-made _ _ _ c.args.task.now.entry c.args.proof c.args.halves.cut c.args.halves.agree _ _ c.requires.halves.cut c.requires.halves.agree c.in_ok-kind.ensures c.in_ok-parts.ensures.list

pub returns : goal.returns
returns c = settling-at c.args.task.now c.args.member (raw_of c.args.task.now.entry s.Whole (Some c.args.member) o.None c.args.proof) _ c.requires.settled c.in_ok-settled.ensures
