-- What is known of an open journal.
use Rattle.std.specs.Prelude.{◌≡◌, ◌⊎◌, ℕ, Bool, List, [], ◌∷◌, ◌++◌, Result, Ok, Err, ⊤}
use Rattle.prv_journal.specs.Records.{Records, Payloads, Damaged, records, followed_by}
use Rattle.prv_journal.specs.declared.error.LoadError.{LoadError}
use Rattle.prv_journal.specs.declared.error.LoadError.TheVariants as load

-- the disk that a journal is on, how many records it has, and whether the disk failed in an append
pub record OpenJournal (D : Type 0) : Type 0 where
  pub disk : D
  pub count : ℕ
  pub is_broken : Bool

-- the file has these records
abbrev pub Has : Records → List ℕ → Type 0
Has found file = records file ≡ found

-- the file has these records, or these and the payload
abbrev pub HasBeforeOrWith : Records → List ℕ → List ℕ → Type 0
HasBeforeOrWith before payload file = Has before file ⊎ Has (followed_by payload before) file

-- the file has these payloads, or these and one more
abbrev pub HasOrWith : List (List ℕ) → List ℕ → List ℕ → Type 0
HasOrWith payloads payload file = Has (Payloads payloads) file ⊎ Has (Payloads (payloads ++ payload ∷ [])) file

-- the disk that a journal was opened on, or that comes back with a refusal
abbrev pub disk_after : {D P : Type 0} → Result (OpenJournal D × P) (LoadError × D) → D
disk_after (Ok opened) = opened.0.disk
disk_after (Err refused) = refused.1

-- a refusal that tells of damage tells of this one
abbrev pub TellsDamage : LoadError → Records → Type 0
TellsDamage load.Device found = ⊤
TellsDamage (load.Damaged offset count) found = found ≡ Damaged offset count
TellsDamage load.Memory found = ⊤
