-- The payload of a record in each form.
use Rattle.std.specs.Prelude.{◌≡◌, ⊤, ℕ, ◌<◌, ◌^◌, List, [], ◌∷◌, ◌++◌, unwrap_or}
use Rattle.std.specs.List.{flat_map, AllByRecursion}
use Rattle.prv_codec.specs.declared.form.Form.{Form}
use Rattle.prv_codec.specs.declared.form.Form.TheVariants.{One, Two}
use Rattle.prv_codec.specs.Forms.{number, long}
use Rattle.prv_codec.specs.Spelling as spell
use Rattle.prv_part.specs.declared.shape.Shape.{Shape}
use Rattle.prv_part.specs.declared.shape.Shape.TheVariants.{Empty, Stuck, Whole, Split, Beyond}
use Rattle.prv_record.specs.Fields.{Field, Code, Number, Long, Words, Log, Line, shape_fields, CountsLines}
use Rattle.prv_record.specs.declared.raw.Raw.{Raw}

-- a field in a form
abbrev pub spelling : Form → Field → List ℕ
spelling form (Code n) = n ∷ []
spelling form (Number n) = number form n
spelling form (Long n) = long form n
spelling form (Words x) = spell.input form x
spelling form (Log lines) = spell.log form lines
spelling form (Line s) = spell.line form s

-- what has a spelling
abbrev pub IsSpelled : Field → Type 0
IsSpelled (Code n) = ⊤
IsSpelled (Number n) = spell.IsNumber n
IsSpelled (Long n) = n < 2 ^ 64
IsSpelled (Words x) = spell.IsShort x
IsSpelled (Log lines) = spell.IsLog lines
IsSpelled (Line s) = spell.IsLine s

-- the first byte, which tells the form
abbrev pub kind : Form → ℕ
kind One = 1
kind Two = 3

-- the byte of a shape
abbrev pub shape_code : Shape → ℕ
shape_code Empty = 0
shape_code Stuck = 1
shape_code Whole = 2
shape_code Split = 3
shape_code Beyond = 4

-- the fields of a record by its shape, if it has them
abbrev pub fields_of : Raw → List Field
fields_of raw = unwrap_or (shape_fields raw.shape raw.member raw.other raw.proof) []

-- the kind, the entry, the shape, and the fields of the shape
abbrev pub payload : Form → Raw → List ℕ
payload form raw = kind form ∷ (number form raw.entry ++ shape_code raw.shape ∷ flat_map (spelling form) (fields_of raw))
