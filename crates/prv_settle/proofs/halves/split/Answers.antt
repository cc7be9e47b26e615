use Rattle.std.proofs.Common.{Some}
use Rattle.prv_sym.proofs.Naming.{stands-in}
use Rattle.prv_part.specs.declared.shape.Shape.TheVariants as s
use Rattle.prv_settle.specs.Settlings.{raw_of}
use Rattle.prv_settle.proofs.Halving.{cut-long, split-made}
use Rattle.prv_settle.proofs.Stepping.{may-settle-at, settling-at}
use Rattle.prv_settle.proofs.halves.split.Goals as goal

pub split_parts-requires-clause-region : goal.split_parts-requires-clause-region
split_parts-requires-clause-region c = cut-long _ _ _ _ c.requires.halves.cut

pub split_parts-requires-clause-nodes : goal.split_parts-requires-clause-nodes
split_parts-requires-clause-nodes c = c.requires.halves.cut.nodes

pub split_parts-requires-clause-first : goal.split_parts-requires-clause-first
split_parts-requires-clause-first c = stands-in _ _ _ c.requires.halves.first

pub split_parts-requires-clause-second : goal.split_parts-requires-clause-second
split_parts-requires-clause-second c = stands-in _ _ _ c.requires.halves.second

pub split_parts-requires-clause-room : goal.split_parts-requires-clause-room
split_parts-requires-clause-room c = c.requires.halves.room

pub seal-requires-clause-grounds : goal.seal-requires-clause-grounds
seal-requires-clause-grounds c = may-settle-at c.args.task.now c.args.member s.Split (Some c.args.member) c.args.other c.args.proof c.requires.member c.requires.settled

pub seal-requires-clause-parts : goal.seal-requires-clause-parts
seal-requires-clause-parts c = split-made _ _ _ c.args.task.now.entry c.args.other c.args.proof c.args.halves c.args.halves.agree _ c.requires.halves c.requires.halves.agree c.requires.shown c.in_ok-parts.ensures.list

pub returns : goal.returns
returns c = settling-at c.args.task.now c.args.member (raw_of c.args.task.now.entry s.Split (Some c.args.member) c.args.other c.args.proof) _ c.requires.settled c.in_ok-settled.ensures
