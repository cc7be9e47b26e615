-- Reading fields from the front of some bytes, up to the first byte with which no field goes on.
use Rattle.std.specs.Prelude.{◌≡◌, ⊤, ℕ, zero, suc, ◌+◌, ◌-◌, ◌*◌, List, [], ◌∷◌, length, take, drop, ℤ, Result, Ok, Err, ◌&&◌, ◌==◌, nat_lt, nat_le, if◌then◌else◌}
use Rattle.std.specs.Int.{Width, w32, w64, byte_len, from_le_bytes}
use Rattle.prv_model.specs.declared.limits.TheConstants.{MAX_PARAMS}
use Rattle.prv_cnf.specs.declared.literal.Lit.{Lit}
use Rattle.prv_check.specs.LogLines.{LogLine}
use Rattle.prv_codec.specs.declared.error.ReadError.{ReadError}
use Rattle.prv_codec.specs.declared.error.ReadError.TheVariants as errors
use Rattle.prv_codec.specs.declared.form.Form.{Form}
use Rattle.prv_codec.specs.declared.form.Form.TheVariants.{One, Two}
use Rattle.prv_codec.specs.Forms.{decoded}

-- a value and the bytes behind it, or how many bytes are left where reading stops
abbrev pub Read : Type 0 → Type 0
Read A = Result (A × List ℕ) ℕ

infixl 10 ◌>>=◌
abbrev pub ◌>>=◌ : {A B : Type 0} → Result A ℕ → (A → Result B ℕ) → Result B ℕ
(Ok x) >>= f = f x
(Err left) >>= f = Err left

-- what a function returned, seen by view, is what reading gives, unless memory ran out
abbrev pub Fails : {Y : Type 0} → ReadError → Result Y ℕ → Type 0
Fails errors.Memory read = ⊤
Fails (errors.Bad left) read = read ≡ Err left

abbrev pub Gives : {X Y : Type 0} → (X → Y) → Result X ReadError → Result Y ℕ → Type 0
Gives view (Ok x) read = read ≡ Ok (view x)
Gives view (Err e) read = Fails e read

-- a value that takes all of the bytes
abbrev pub whole : {A : Type 0} → Read A → Result A ℕ
whole (Ok (a, [])) = Ok a
whole (Ok (a, b ∷ rest)) = Err (suc (length rest))
whole (Err left) = Err left

-- a byte that is at least low and at most high
unfoldable pub byte_at : ℕ → ℕ → List ℕ → Read ℕ
byte_at low high [] = Err 0
byte_at low high (b ∷ rest) = if nat_le low b && nat_le b high then Ok (b, rest) else Err (suc (length rest))

-- ---- numbers

abbrev pub fixed_at : Width → List ℕ → Read ℕ
fixed_at w bytes = if nat_lt (length bytes) (byte_len w) then Err 0 else Ok (from_le_bytes w (take (byte_len w) bytes), drop (byte_len w) bytes)

-- a group with its high bit set, before the number that the groups behind it give
abbrev pub with_low : ℕ → Read ℕ → Read ℕ
with_low b read = read >>= λ high. Ok (b - 128 + 128 * high.0, high.1)

-- a number that isn't 0, where so many groups may follow the first, and the last of all is below top
unfoldable pub groups_at : ℕ → ℕ → List ℕ → Read ℕ
groups_at top more [] = Err 0
groups_at top zero (b ∷ rest) = if b == 0 then Err (suc (length rest)) else if nat_lt b top then Ok (b, rest) else Err (suc (length rest))
groups_at top (suc more) (b ∷ rest) = if b == 0 then Err (suc (length rest)) else if nat_lt b 128 then Ok (b, rest) else with_low b (groups_at top more rest)

-- a number, of which 0 alone has a last group that is 0
unfoldable pub shortest_at : ℕ → ℕ → List ℕ → Read ℕ
shortest_at top more [] = Err 0
shortest_at top more (b ∷ rest) = if b == 0 then Ok (0, rest) else groups_at top more (b ∷ rest)

abbrev pub number_at : Form → List ℕ → Read ℕ
number_at One bytes = fixed_at w32 bytes
number_at Two bytes = shortest_at 16 4 bytes

abbrev pub long_at : Form → List ℕ → Read ℕ
long_at One bytes = fixed_at w64 bytes
long_at Two bytes = shortest_at 2 9 bytes

unfoldable pub word_at : Form → List ℕ → Read ℤ
word_at form bytes = do
  n ← number_at form bytes
  Ok (decoded form n.0, n.1)

-- ---- lists and texts

unfoldable pub items_at : {A : Type 0} → (List ℕ → Read A) → ℕ → List ℕ → Read (List A)
items_at read zero bytes = Ok ([], bytes)
items_at read (suc n) bytes = do
  first ← read bytes
  others ← items_at read n first.1
  Ok (first.0 ∷ others.0, others.1)

unfoldable pub counted_at : {A : Type 0} → Form → (List ℕ → Read A) → List ℕ → Read (List A)
counted_at form read bytes = do
  n ← number_at form bytes
  items_at read n.0 n.1

-- so many bytes
abbrev pub front_at : ℕ → List ℕ → Read (List ℕ)
front_at n bytes = if nat_lt (length bytes) n then Err 0 else Ok (take n bytes, drop n bytes)

unfoldable pub text_at : Form → List ℕ → Read (List ℕ)
text_at form bytes = do
  n ← number_at form bytes
  front_at n.0 n.1

-- ---- inputs and logs

unfoldable pub input_at : Form → List ℕ → Read (List ℤ)
input_at form bytes = do
  n ← byte_at 1 MAX_PARAMS bytes
  items_at (word_at form) n.0 n.1

unfoldable pub literal_at : Form → List ℕ → Read Lit
literal_at form bytes = do
  v ← word_at form bytes
  Ok (record { 0 = v.0 }, v.1)

unfoldable pub line_at : Form → List ℕ → Read LogLine
line_at form bytes = do
  clause ← counted_at form (literal_at form) bytes
  hints ← counted_at form (number_at form) clause.1
  Ok (record { clause = clause.0; hints = hints.0 }, hints.1)

abbrev pub log_at : Form → List ℕ → Read (List LogLine)
log_at form bytes = counted_at form (line_at form) bytes
