-- How a form spells the fields of a payload.
use Rattle.std.specs.Prelude.{ℕ, ◌≤◌, ◌<◌, ◌^◌, List, ◌∷◌, ◌++◌, length, ℤ}
use Rattle.std.specs.List.{flat_map, All, AllByRecursion}
use Rattle.prv_model.specs.Words.{IsWord}
use Rattle.prv_model.specs.declared.limits.TheConstants.{MAX_PARAMS}
use Rattle.prv_cnf.specs.declared.literal.Lit.{Lit}
use Rattle.prv_check.specs.LogLines.{LogLine}
use Rattle.prv_codec.specs.declared.form.Form.{Form}
use Rattle.prv_codec.specs.Forms.{number, word}

-- a count, and so many items
abbrev pub counted : {A : Type 0} → Form → (A → List ℕ) → List A → List ℕ
counted form spell items = number form (length items) ++ flat_map spell items

-- a text: its length, and its bytes
abbrev pub text : Form → List ℕ → List ℕ
text form bytes = number form (length bytes) ++ bytes

-- an input: the count of its words in one byte, and the words
abbrev pub input : Form → List ℤ → List ℕ
input form x = length x ∷ flat_map (word form) x

abbrev pub literal : Form → Lit → List ℕ
literal form l = word form l.0

-- a line of a log: its literals, and its hints
abbrev pub line : Form → LogLine → List ℕ
line form s = counted form (literal form) s.clause ++ counted form (number form) s.hints

-- a log: its lines
abbrev pub log : Form → List LogLine → List ℕ
log form lines = counted form (line form) lines

-- ---- what has a spelling

abbrev pub IsNumber : ℕ → Type 0
IsNumber n = n < 2 ^ 32

-- a list that a count of 32 bits can tell, of items that each have a spelling
pub record IsCounted {A : Type 0} (Fits : A → Type 0) (items : List A) : Type 0 where
  pub few : IsNumber (length items)
  pub each : AllByRecursion Fits items

abbrev pub IsText : List ℕ → Type 0
IsText bytes = IsNumber (length bytes)

-- 1 to 8 words
pub record IsShort (x : List ℤ) : Type 0 where
  pub some : 1 ≤ length x
  pub few : length x ≤ MAX_PARAMS
  pub words : AllByRecursion IsWord x

abbrev pub IsLiteral : Lit → Type 0
IsLiteral l = IsWord l.0

pub record IsLine (s : LogLine) : Type 0 where
  pub clause : IsCounted IsLiteral s.clause
  pub hints : IsCounted IsNumber s.hints

abbrev pub IsLog : List LogLine → Type 0
IsLog lines = IsCounted IsLine lines

-- the counts of a line, and of a log and each of its lines, have 32 bits
pub record IsSized (s : LogLine) : Type 0 where
  pub clause : IsNumber (length s.clause)
  pub hints : IsNumber (length s.hints)

pub record AreSized (lines : List LogLine) : Type 0 where
  pub few : IsNumber (length lines)
  pub each : All IsSized lines
