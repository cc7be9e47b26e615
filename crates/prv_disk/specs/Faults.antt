-- What a disk's answers say of its count of faults.
use Rattle.std.specs.Prelude.{Result, Ok, Err, ⊤}
use Rattle.prv_disk.specs.declared.disk.DiskError.{DiskError}
use Rattle.prv_disk.specs.declared.disk.DiskError.TheVariants.{Failed, Memory}

-- P, unless the answer is Failed
abbrev pub UnlessFailed : {T : Type 0} → Result T DiskError → Type 0 → Type 0
UnlessFailed (Ok x) P = P
UnlessFailed (Err Failed) P = ⊤
UnlessFailed (Err Memory) P = P
