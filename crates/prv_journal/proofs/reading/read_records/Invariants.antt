use Rattle.std.proofs.Common.{◌*◌, ◌-◌, ◌<◌, ◌≤◌, All, length, take, map}
use Rattle.prv_journal.specs.Ends.{Opens}
use Rattle.prv_journal.proofs.reading.read_records.Given as goal

-- up to `end` stand open gates with the payloads so far
abbrev pub invariant-loop-end : goal.invariant-loop-end
invariant-loop-end l =
    (l.end < length l.bytes) × (l.end ≤ 17000005 * length l.payloads.items) × Opens (take l.end l.bytes) (map (λ payload. payload.items) l.payloads.items)
    × All (λ payload. length payload.items ≤ 17000000) l.payloads.items

abbrev pub decreases-loop-end : goal.decreases-loop-end
decreases-loop-end l = length l.bytes - l.end
