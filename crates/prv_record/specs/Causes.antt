-- What the refusal of a payload says.
use Rattle.std.specs.Prelude.{⊤, ℕ}
use Rattle.prv_record.specs.declared.error.DecodeError.{DecodeError}
use Rattle.prv_record.specs.declared.error.DecodeError.TheVariants.{Bad, Memory}

-- the offset of bytes that are no payload has its cause; memory may run out at any time
abbrev pub IsCause : (ℕ → Type 0) → DecodeError → Type 0
IsCause Cause (Bad offset) = Cause offset
IsCause Cause Memory = ⊤
