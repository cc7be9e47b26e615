use Rattle.std.proofs.Common.{◌≡◌, drop}
use Rattle.prv_disk.specs.MemDisk.{after_picks}
use Rattle.prv_disk.proofs.past_write.leave_all.Given as goal

-- what is left, after what was done, is all
abbrev pub invariant-loop-write : goal.invariant-loop-write
invariant-loop-write l = after_picks l.pick (drop l.write-index l.writes) l.file.items ≡ after_picks l.pick l.initial.writes l.initial.file.items
