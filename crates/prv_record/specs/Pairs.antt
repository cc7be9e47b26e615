-- The payload that a journal begins with: the texts that name a pair and a space, and the bound on turns.
use Rattle.std.specs.Prelude.{◌≡◌, ⊤, ℕ, suc, List, [], ◌∷◌, ◌++◌, length, Result, Ok, Err, ◌==◌, if◌then◌else◌}
use Rattle.prv_codec.specs.declared.form.Form.{Form}
use Rattle.prv_codec.specs.declared.form.Form.TheVariants.{One, Two}
use Rattle.prv_codec.specs.Forms.{number}
use Rattle.prv_codec.specs.Spelling.{text, IsNumber, IsText}
use Rattle.prv_codec.specs.Reading.{Read, ◌>>=◌, number_at, text_at}
use Rattle.prv_record.specs.declared.pair.RawPair.{RawPair}

-- what a first payload says
pub record Opening : Type 0 where
  pub form : Form
  pub turns : ℕ
  pub space : List ℕ
  pub before : List ℕ
  pub after : List ℕ

-- without where its texts lie in memory
abbrev pub opening : RawPair → Opening
opening p = record { form = p.form; turns = p.turns; space = p.space.items; before = p.before.items; after = p.after.items }

abbrev pub opening_of : Form → ℕ → List ℕ → List ℕ → List ℕ → Opening
opening_of form turns space before after = record { form = form; turns = turns; space = space; before = before; after = after }

-- the first byte, which tells the form
abbrev pub pair_kind : Form → ℕ
pair_kind One = 0
pair_kind Two = 2

-- the first form has no text of a space
abbrev pub space_text : Form → List ℕ → List ℕ
space_text One space = []
space_text Two space = text Two space

abbrev pub IsUnused : Form → List ℕ → Type 0
IsUnused One space = space ≡ []
IsUnused Two space = ⊤

abbrev pub IsSpace : Form → List ℕ → Type 0
IsSpace One space = space ≡ []
IsSpace Two space = IsText space

pub record IsOpening (p : Opening) : Type 0 where
  pub turns : IsNumber p.turns
  pub space : IsSpace p.form p.space
  pub before : IsText p.before
  pub after : IsText p.after

-- the kind, the turns, the text of the space, the old text and the new one
abbrev pub pair_payload : Opening → List ℕ
pair_payload p = pair_kind p.form ∷ (number p.form p.turns ++ (space_text p.form p.space ++ (text p.form p.before ++ text p.form p.after)))

-- the bytes are the first payload of a journal, and this is what they say
pub record IsFirst (p : Opening) (bytes : List ℕ) : Type 0 where
  pub fits : IsOpening p
  pub is : bytes ≡ pair_payload p

-- the bytes are the first payload of a journal in one of the two forms
abbrev pub IsPairPayload : List ℕ → Type 0
IsPairPayload bytes = (p : Opening) × IsFirst p bytes

-- ---- reading from left to right

-- the first byte names the form
unfoldable pub kind_at : List ℕ → Read Form
kind_at [] = Err 0
kind_at (b ∷ rest) = if b == 0 then Ok (One, rest) else if b == 2 then Ok (Two, rest) else Err (suc (length rest))

unfoldable pub space_at : Form → List ℕ → Read (List ℕ)
space_at One bytes = Ok ([], bytes)
space_at Two bytes = text_at Two bytes

unfoldable pub pair_at : List ℕ → Read Opening
pair_at bytes = do
  form ← kind_at bytes
  turns ← number_at form.0 form.1
  space ← space_at form.0 turns.1
  before ← text_at form.0 space.1
  after ← text_at form.0 before.1
  Ok (record { form = form.0; turns = turns.0; space = space.0; before = before.0; after = after.0 }, after.1)
