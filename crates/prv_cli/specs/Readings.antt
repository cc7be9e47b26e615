-- The steps that read a file.
use Rattle.std.specs.Prelude.{◌≡◌, ◌≢◌, ℕ, ◌≤◌, List, [], ◌∷◌, length, ℤ, ⊤, Result, Ok, Err}
use Rattle.prv_io.specs.Files.{Known, MayHold, MayBeLonger}
use Rattle.prv_model.specs.declared.limits.TheConstants.{MAX_FILE}
use Rattle.prv_lex.specs.declared.error.LexError.TheVariants.{Refused}
use Rattle.prv_lex.specs.declared.error.LexWhy.TheVariants.{Long}
use Rattle.prv_names.specs.declared.version.Version.{Version}
use Rattle.prv_version.specs.Versions.{GivesVersion, IsFileRefused}
use Rattle.prv_version.specs.declared.error.VersionError.TheVariants.{Lex}
use Rattle.prv_cli.specs.Steps.{Step, reading, answers, ◌>>=◌}
use Rattle.prv_cli.specs.declared.refusal.Who.{Who}
use Rattle.prv_cli.specs.declared.refusal.Refusal.{Refusal}
use Rattle.prv_cli.specs.declared.refusal.Refusal.TheVariants as refusal

-- what a read of a file may answer: its bytes, within the limit; that it has more; that the read failed; or that memory ran out.
-- So the answer for a file that is known to be absent is that the read failed.
abbrev pub IsRead : Who → Known → Result (List ℕ) Refusal → Type 0
IsRead who known (Ok bytes) = MayHold known bytes × (length bytes ≤ MAX_FILE)
IsRead who known (Err (refusal.File w why)) = (w ≡ who) × (why ≡ Lex (Refused MAX_FILE Long)) × MayBeLonger MAX_FILE known
IsRead who known (Err refusal.Read) = ⊤
IsRead who known (Err refusal.Memory) = ⊤
IsRead who known (Err _) = ⊥

-- the file of this name is read, once
abbrev pub read_file : Who → List ℕ → Step (List ℕ)
read_file who name told trace answer = (trace ≡ reading (name ∷ [])) × IsRead who (told name) answer

-- why bytes give no version
abbrev pub GivesNone : Who → List ℕ → Refusal → Type 0
GivesNone who bytes (refusal.File w why) = (w ≡ who) × IsFileRefused bytes why
GivesNone who bytes refusal.Memory = ⊤
GivesNone who bytes _ = ⊥

-- the version that bytes give
abbrev pub version_of : Who → List ℕ → Step Version
version_of who bytes = answers (GivesVersion bytes) (GivesNone who bytes)

-- the version that a file gives
abbrev pub version : Who → List ℕ → Step Version
version who name = do
  bytes ← read_file who name
  version_of who bytes

-- why an input doesn't fit a program: it has another number of words than the program has parameters
abbrev pub FitsNot : List ℤ → ℕ → Refusal → Type 0
FitsNot input params why = (length input ≢ params) × (why ≡ refusal.Inputs (length input) params)

-- an input has a word for each parameter
abbrev pub fits : List ℤ → ℕ → Step (Unit {0})
fits input params = answers (λ _. length input ≡ params) (FitsNot input params)

-- nothing refuses but want of memory
abbrev pub IsMemory : Refusal → Type 0
IsMemory why = why ≡ refusal.Memory
