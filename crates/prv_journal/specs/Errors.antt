-- What an error of a disk is at a journal, and what every other answer says.
use Rattle.std.specs.Prelude.{Result, Ok, Err, ⊤}
use Rattle.prv_disk.specs.declared.disk.DiskError.{DiskError}
use Rattle.prv_disk.specs.declared.disk.DiskError.TheVariants.{Failed, Memory}
use Rattle.prv_journal.specs.declared.error.LoadError.{LoadError}
use Rattle.prv_journal.specs.declared.error.LoadError.TheVariants as load
use Rattle.prv_journal.specs.declared.error.AppendError.{AppendError}
use Rattle.prv_journal.specs.declared.error.AppendError.TheVariants as append

abbrev pub load_error : DiskError → LoadError
load_error Failed = load.Device
load_error Memory = load.Memory

-- P, unless the error is Device
abbrev pub UnlessDevice : LoadError → Type 0 → Type 0
UnlessDevice load.Device P = ⊤
UnlessDevice (load.Damaged offset found) P = P
UnlessDevice load.Memory P = P

-- P, unless a load, which hands its disk back, answers Device
abbrev pub UnlessLoadFailed : {J D : Type 0} → Result J (LoadError × D) → Type 0 → Type 0
UnlessLoadFailed (Ok opened) P = P
UnlessLoadFailed (Err refused) P = UnlessDevice refused.0 P

-- P, unless an append answers Device
abbrev pub UnlessAppendFailed : {T : Type 0} → Result T AppendError → Type 0 → Type 0
UnlessAppendFailed (Ok number) P = P
UnlessAppendFailed (Err append.TooLong) P = P
UnlessAppendFailed (Err append.Broken) P = P
UnlessAppendFailed (Err append.Device) P = ⊤
UnlessAppendFailed (Err append.Memory) P = P
