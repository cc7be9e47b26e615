-- What a sink takes.
use Rattle.std.specs.Prelude.{◌≡◌, ℕ, ◌<◌, List, length, take, Option}
use Rattle.std.specs.Io.KnownBytes.{append_known}
use Rattle.prv_io.specs.Faults.{Rose}

-- some first bytes of these were taken, and not all
abbrev pub TakesPart : Option (List ℕ) → Option (List ℕ) → List ℕ → Type 0
TakesPart before after bytes =
    (k : ℕ) × (k < length bytes) × (after ≡ append_known before (take k bytes))

-- what is known of a sink: the bytes that it took, where they are told, and how many writes failed
pub record Output : Type 0 where
  pub taken : Option (List ℕ)
  pub faults : ℕ

-- a sink took all of these bytes, and no write failed
pub record TookAll (before after : Output) (bytes : List ℕ) : Type 0 where
  pub all : after.taken ≡ append_known before.taken bytes
  pub no_fault : after.faults ≡ before.faults

-- a sink took a part of these bytes up to a write that failed
pub record TookPart (before after : Output) (bytes : List ℕ) : Type 0 where
  pub part : TakesPart before.taken after.taken bytes
  pub fault : Rose before.faults after.faults
