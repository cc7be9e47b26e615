-- What is known of files, and what a read of one answers.
use Rattle.std.specs.Prelude.{◌≡◌, ℕ, ◌<◌, List, [], ◌∷◌, length, Result, Ok, Err, ⊤}
use Rattle.prv_io.specs.declared.files.FileError.{FileError}
use Rattle.prv_io.specs.declared.files.FileError.TheVariants.{Failed, TooLong, Memory}

-- what is known of a file: that there is none, its bytes, or nothing
pub data Known : Type 0 where
  Absent : Known
  Holds : (bytes : List ℕ) → Known
  Unknown : Known

-- a file may hold these bytes
abbrev pub MayHold : Known → List ℕ → Type 0
MayHold Absent bytes = ⊥
MayHold (Holds told) bytes = bytes ≡ told
MayHold Unknown bytes = ⊤

-- a file may have more bytes than so many
abbrev pub MayBeLonger : ℕ → Known → Type 0
MayBeLonger limit Absent = ⊥
MayBeLonger limit (Holds told) = limit < length told
MayBeLonger limit Unknown = ⊤

-- the files of these names were read, in this order, and none else: `reads` is one read, from a state of the object to the next
abbrev pub ReadsInTurn : {S : Type 0} → (S → List ℕ → S → Type 0) → S → List (List ℕ) → S → Type 0
ReadsInTurn reads before [] after = after ≡ before
ReadsInTurn {S} reads before (name ∷ names) after = (between : S) × reads before name between × ReadsInTurn reads between names after

-- P, unless the answer is Failed
abbrev pub UnlessFailed : {T : Type 0} → Result T FileError → Type 0 → Type 0
UnlessFailed (Ok x) P = P
UnlessFailed (Err Failed) P = ⊤
UnlessFailed (Err TooLong) P = P
UnlessFailed (Err Memory) P = P
