-- Files in memory.
use Rattle.std.specs.Prelude.{ℕ, List, Option, None, Some, Bool, ◌||◌, is_none, find}
use Rattle.std.specs.Option.{option_map}
use Rattle.std.specs.Str.{bytes_eq}
use Rattle.prv_io.specs.FaultPlan.{Plan, is_to_fail, after_call}
use Rattle.prv_io.specs.Files.{Known, Absent, Holds}

-- a file's name and its bytes
pub record NamedBytes : Type 0 where
  pub name : List ℕ
  pub bytes : List ℕ

-- the files, first to last, and the calls so far
pub record FilesInMemory : Type 0 where
  pub files : List NamedBytes
  pub plan : Plan

-- the bytes of the first file of this name
abbrev pub bytes_named : List NamedBytes → List ℕ → Option (List ℕ)
bytes_named files name = option_map (λ file. file.bytes) (find (λ file. bytes_eq file.name name) files)

-- what is told of a file that has these bytes, or isn't there
abbrev pub known_of : Option (List ℕ) → Known
known_of None = Absent
known_of (Some bytes) = Holds bytes

-- the next read fails: it is to fail, or no file has this name
abbrev pub read_fails : FilesInMemory → List ℕ → Bool
read_fails m name = is_to_fail m.plan || is_none (bytes_named m.files name)

-- after a read of this name
abbrev pub after_read : FilesInMemory → List ℕ → FilesInMemory
after_read m name = record m { plan = after_call (read_fails m name) m.plan }
