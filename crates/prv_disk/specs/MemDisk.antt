-- A disk in memory: the bytes that it was made with, and its calls, the last one first.
use Rattle.std.specs.Prelude.{◌≡◌, ◌⊎◌, ℕ, zero, suc, ◌-◌, ◌^◌, ◌<◌, ◌≤◌, ◌==◌, true, false, List, [], ◌∷◌, length, take, drop, replicate, if◌then◌else◌, IsTrue}
use Rattle.prv_disk.specs.Bytes.{overwritten, Torn}
use Rattle.prv_io.specs.FaultPlan.{Plan, is_to_fail, after_call}
use Rattle.prv_disk.specs.declared.quiet_calls.QuietCalls.{QuietCalls}

-- what a call did: it wrote these bytes at `at`, it changed nothing, or it made everything lasting
pub data Event : Type 0 where
  Wrote : (at : ℕ) (bytes : List ℕ) → Event
  Passed : Event
  Synced : Event

-- the bytes that a disk was made with, and what its calls did, the last one first
pub record Calls : Type 0 where
  pub start : List ℕ
  pub log : List Event

-- these, and the calls that are to fail
pub record DiskInMemory : Type 0 where
  pub start : List ℕ
  pub log : List Event
  pub plan : Plan

-- what a read gives
abbrev pub content : List ℕ → List Event → List ℕ
content start [] = start
content start (Wrote at bytes ∷ log) = overwritten (content start log) at bytes
content start (Passed ∷ log) = content start log
content start (Synced ∷ log) = content start log

-- a crash now may leave this image
abbrev pub MayLeave : List ℕ → List Event → List ℕ → Type 0
MayLeave start [] image = image ≡ start
MayLeave start (Wrote at bytes ∷ log) image = (before : List ℕ) × MayLeave start log before × Torn at (length bytes) before image
MayLeave start (Passed ∷ log) image = MayLeave start log image
MayLeave start (Synced ∷ log) image = image ≡ content start log

-- a crash since there were t calls may have left it
abbrev pub LeftSince : List ℕ → List Event → ℕ → List ℕ → Type 0
LeftSince start [] t image = MayLeave start [] image
LeftSince start (event ∷ log) t image = MayLeave start (event ∷ log) image ⊎ ((t ≤ length log) × LeftSince start log t image)

-- what is picked of a write that no sync made lasting: nothing of it for 0, all of it for 1, and else the pick in each of its bytes
abbrev pub picked : ℕ → ℕ → List ℕ → List ℕ → List ℕ
picked pick at bytes file =
    if pick == 0 then file else overwritten file at (if pick == 1 then bytes else replicate (length bytes) pick)

-- the image that a crash leaves for this pick
abbrev pub crashed : ℕ → List ℕ → List Event → List ℕ
crashed pick start [] = start
crashed pick start (Wrote at bytes ∷ log) = picked pick at bytes (crashed pick start log)
crashed pick start (Passed ∷ log) = crashed pick start log
crashed pick start (Synced ∷ log) = content start log

-- a call that writes nothing and is no sync; where all is lasting it counts as a sync
abbrev pub quiet : List Event → Event
quiet (Synced ∷ log) = Synced
quiet log = Passed

-- after a call that changes nothing
abbrev pub after_quiet : DiskInMemory → DiskInMemory
after_quiet disk = record disk { log = quiet disk.log ∷ disk.log; plan = after_call false disk.plan }

-- after a sync
abbrev pub after_sync : DiskInMemory → DiskInMemory
after_sync disk = record disk { log = Synced ∷ disk.log; plan = after_call false disk.plan }

-- after a write
abbrev pub after_write : ℕ → List ℕ → DiskInMemory → DiskInMemory
after_write at bytes disk = record disk { log = Wrote at bytes ∷ disk.log; plan = after_call false disk.plan }

-- after a call that failed
abbrev pub after_fault : DiskInMemory → DiskInMemory
after_fault disk = record disk { plan = after_call true disk.plan }

-- the next call may fail: it is to fail, or there were too many calls to count
abbrev pub MayFail : DiskInMemory → Type 0
MayFail disk = IsTrue (is_to_fail disk.plan) ⊎ (2 ^ 64 - 1 ≤ length disk.log)

-- The code keeps a list of writes and counts the calls between them. Behind a sync, and up to the next write, each call
-- counts as a sync.

-- an event, so many times
abbrev pub times : ℕ → Event → List Event → List Event
times zero event log = log
times (suc n) event log = event ∷ times n event log

-- a log, and calls that wrote nothing
abbrev pub then_quiet : QuietCalls → List Event → List Event
then_quiet calls log = times calls.synced Synced (times calls.passed Passed log)

-- a write, and the calls between it and the write before it
pub record Written : Type 0 where
  pub before : QuietCalls
  pub at : ℕ
  pub bytes : List ℕ

-- a log, and these writes, the first of them first
abbrev pub then_writes : List Written → List Event → List Event
then_writes [] log = log
then_writes (write ∷ writes) log = then_writes writes (Wrote write.at write.bytes ∷ then_quiet write.before log)

-- what a crash leaves of these writes, the first of them first
abbrev pub after_picks : ℕ → List Written → List ℕ → List ℕ
after_picks pick [] file = file
after_picks pick (write ∷ writes) file = after_picks pick writes (picked pick write.at write.bytes file)

-- what the code keeps beside the log: what a read gives, once there are writes, and how many of them are lasting
pub record IsKept (start current : List ℕ) (writes : List Written) (since : QuietCalls) (synced : ℕ) : Type 0 where
  pub current_is : 0 < length writes → current ≡ content start (then_quiet since (then_writes writes []))
  pub within : synced ≤ length writes
  pub all_lasting : 0 < since.synced → synced ≡ length writes
  pub leaves : (pick : ℕ) → crashed pick start (then_quiet since (then_writes writes [])) ≡ after_picks pick (drop synced writes) (after_picks 1 (take synced writes) start)
