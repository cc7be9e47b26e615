use Rattle.std.proofs.Common.{Some, refl}
use Rattle.prv_part.specs.declared.shape.Shape.TheVariants as s
use Rattle.prv_record.specs.declared.raw.RawOther.TheVariants as o
use Rattle.prv_record.specs.declared.raw.Proof.TheVariants as p
use Rattle.prv_settle.specs.Settlings.{raw_of}
use Rattle.prv_settle.proofs.Stepping.{may-settle-at, settling-at}
use Rattle.prv_settle.proofs.settling.stuck_at.Goals as goal

pub seal_only-requires-clause-grounds : goal.seal_only-requires-clause-grounds
seal_only-requires-clause-grounds c = may-settle-at c.args.task.now c.args.member s.Stuck (Some c.args.member) (o.Reason c.args.reason) p.None c.requires.member c.requires.settled

pub seal_only-requires-clause-parts : goal.seal_only-requires-clause-parts
seal_only-requires-clause-parts c = refl

pub returns : goal.returns
returns c = settling-at c.args.task.now c.args.member (raw_of c.args.task.now.entry s.Stuck (Some c.args.member) (o.Reason c.args.reason) p.None) _ c.requires.settled c.in_ok-settled.ensures
