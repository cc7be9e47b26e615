-- Items that were written one by one have a spelling together.
use Rattle.std.proofs.Common.{ℕ, ◌≤◌, ◌<◌, ◌^◌, List, length, All, ℤ}
use Rattle.std.proofs.lemmas.List.Elements.{recursion_from_All}
use Rattle.prv_model.specs.Words.{IsWord}
use Rattle.prv_model.specs.declared.limits.TheConstants.{MAX_PARAMS}
use Rattle.prv_cnf.specs.declared.literal.Lit.{Lit}
use Rattle.prv_check.specs.LogLines.{LogLine}
use Rattle.prv_codec.specs.Spelling.{IsCounted, IsShort, IsLiteral, IsNumber, IsLine, IsLog}

counted : {A : Type 0} (P : A → Type 0) (xs : List A) → length xs < 2 ^ 32 → All P xs → IsCounted P xs
counted P xs few each = record { few = few; each = recursion_from_All P xs each }

pub line_fits : (s : LogLine) → length s.clause < 2 ^ 32 → length s.hints < 2 ^ 32 → All IsLiteral s.clause → All IsNumber s.hints → IsLine s
line_fits s clause hints literals numbers = record { clause = counted IsLiteral s.clause clause literals; hints = counted IsNumber s.hints hints numbers }

pub log_fits : (log : List LogLine) → length log < 2 ^ 32 → All IsLine log → IsLog log
log_fits log few each = counted IsLine log few each

pub input_fits : (x : List ℤ) → 1 ≤ length x → length x ≤ MAX_PARAMS → All IsWord x → IsShort x
input_fits x some few words = record { some = some; few = few; words = recursion_from_All IsWord x words }
