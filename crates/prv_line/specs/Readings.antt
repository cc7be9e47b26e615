-- Which command a list of words reads as. The first word is the command's.
use Rattle.std.specs.Prelude.{◌≡◌, ℕ, ◌≤◌, List, [], ◌∷◌, ℤ, length, map, codes}
use Rattle.std.specs.List.{AllByRecursion}
use Rattle.std.specs.Str.Parse.{digits_value, signed_digits_value}
use Rattle.prv_line.specs.Texts.{IsName, IsNumber, IsSigned}
use Rattle.prv_line.specs.Commands.{defaults, Command, Run, Point, Slice, Explore, Live, Resume, Check, Gen}
use Rattle.prv_line.specs.Options.{Options, all_options, resume_options}

-- the first word is this one, and P holds of the words behind it
abbrev pub Word : List ℕ → (List (List ℕ) → Type 0) → List (List ℕ) → Type 0
Word expected P [] = ⊥
Word expected P (word ∷ rest) = (word ≡ expected) × P rest

-- the first word is this name
abbrev pub Named : List ℕ → (List (List ℕ) → Type 0) → List (List ℕ) → Type 0
Named name P words = IsName name × Word name P words

-- the first word writes this number, which lies between two others
abbrev pub Number : ℕ → ℕ → ℕ → (List (List ℕ) → Type 0) → List (List ℕ) → Type 0
Number least most n P [] = ⊥
Number least most n P (word ∷ rest) = IsNumber least most word × (n ≡ digits_value 10 word) × P rest

-- no word is left
abbrev pub End : List (List ℕ) → Type 0
End words = words ≡ []

-- 1 to 8 words write the numbers of this input
pub record Inputs (input : List ℤ) (words : List (List ℕ)) : Type 0 where
  pub some : 1 ≤ length words
  pub few : length words ≤ 8
  pub each : AllByRecursion IsSigned words
  pub input_is : input ≡ map (signed_digits_value 10) words

-- words read as a command
abbrev pub Reads : Command → List (List ℕ) → Type 0
Reads (Run file input) = Word (codes "run") (Named file (Inputs input))
Reads (Point before after input) = Word (codes "point") (Named before (Named after (Inputs input)))
Reads (Slice file input) = Word (codes "slice") (Named file (Inputs input))
Reads (Explore before after settings) = Word (codes "explore") (Named before (Named after (Options all_options defaults settings)))
Reads (Live before after settings) = Word (codes "live") (Named before (Named after (Options all_options defaults settings)))
Reads (Resume journal lines settlements workers) = Word (codes "resume") (Named journal
    (Options resume_options defaults (record defaults { lines = lines; settlements = settlements; workers = workers })))
Reads (Check journal) = Word (codes "check") (Named journal End)
Reads (Gen number size) = Word (codes "gen") (Number 0 4294967295 number (Number 1 50 size End))
