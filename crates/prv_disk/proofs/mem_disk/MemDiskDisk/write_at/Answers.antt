use Rattle.std.proofs.Common.{length, subst}
use Rattle.prv_disk.specs.MemDisk.{Calls, MayLeave}
use Rattle.prv_disk.proofs.Logs.{stays}
use Rattle.prv_disk.proofs.mem_disk.MemDiskDisk.write_at.Goals as goal

pub returns-then-is_to_fail-clause-crash : goal.returns-then-is_to_fail-clause-crash
returns-then-is_to_fail-clause-crash c =
    rw (← c.self.view_is) (λ image left. stays c.args.at (length c.args.piece.now) c.self.inside.history.start c.self.inside.history.log image left)

pub returns-in_err-write-clause-crash : goal.returns-in_err-write-clause-crash
returns-in_err-write-clause-crash c =
    rw (← c.self.view_is) (λ image left.
    stays c.args.at (length c.args.piece.now) c.self.inside.history.start c.self.inside.history.log image
    (subst (λ (h : Calls). MayLeave h.start h.log image) c.in_err-write.ensures.err left))
