use Rattle.std.proofs.Common.{◌≡◌, ◌≤◌, ◌-◌, length, take}
use Rattle.std.specs.Io.KnownBytes.{append_known}
use Rattle.prv_io.proofs.sink.write_all.Given as goal

abbrev pub invariant-loop-count : goal.invariant-loop-count
invariant-loop-count g l =
    (l.count ≤ length l.bytes)
    × (g.O.Sink.faults l.out ≡ g.O.Sink.faults l.initial.out)
    × (g.O.Sink.taken l.out ≡ append_known (g.O.Sink.taken l.initial.out) (take l.count l.bytes))

abbrev pub decreases-loop-count : goal.decreases-loop-count
decreases-loop-count g l = length l.bytes - l.count
