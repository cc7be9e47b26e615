use Rattle.std.proofs.Common.{Some}
use Rattle.prv_part.specs.declared.shape.Shape.TheVariants as s
use Rattle.prv_record.specs.declared.raw.RawOther.TheVariants as o
use Rattle.prv_record.specs.declared.raw.Proof.TheVariants as p
use Rattle.prv_settle.specs.Settlings.{raw_of}
use Rattle.prv_settle.proofs.Halving.{cut-long, beyond-made}
use Rattle.prv_settle.proofs.Stepping.{may-settle-at, settling-at}
use Rattle.prv_settle.proofs.settling.beyond.Goals as goal

pub whole_parts-requires-clause-region : goal.whole_parts-requires-clause-region
whole_parts-requires-clause-region c = cut-long _ _ _ _ c.requires.cut

pub whole_parts-requires-clause-nodes : goal.whole_parts-requires-clause-nodes
whole_parts-requires-clause-nodes c = c.requires.cut.nodes

pub seal-requires-clause-grounds : goal.seal-requires-clause-grounds
seal-requires-clause-grounds c = may-settle-at c.args.task.now c.args.member s.Beyond (Some c.args.member) o.None p.None c.requires.member c.requires.settled

pub seal-requires-clause-parts : goal.seal-requires-clause-parts
seal-requires-clause-parts c = beyond-made _ _ _ c.args.task.now.entry c.args.cut _ c.requires.cut c.in_ok-parts.ensures.list

pub returns : goal.returns
returns c = settling-at c.args.task.now c.args.member (raw_of c.args.task.now.entry s.Beyond (Some c.args.member) o.None p.None) _ c.requires.settled c.in_ok-settled.ensures
