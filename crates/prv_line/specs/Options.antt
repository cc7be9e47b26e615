-- The options of a command: `--name value` in two words, or `--name=value` in one.
use Rattle.std.specs.Prelude.{◌≡◌, ℕ, Bool, true, false, IsTrue, ⊤, List, [], ◌∷◌, ◌++◌, flat_map, codes, Option, None, Some, if◌then◌else◌}
use Rattle.std.specs.Str.Parse.{digits_value}
use Rattle.prv_line.specs.Texts.{IsName, IsNumber}
use Rattle.prv_line.specs.Commands.{Settings}
use Rattle.prv_line.specs.declared.limits.TheConstants.{TURNS, LINES, SETTLEMENTS, WORKERS}
use Rattle.prv_line.specs.declared.option.OptionName.{OptionName}
use Rattle.prv_line.specs.declared.option.OptionName.TheVariants.{Turns, Lines, Settlements, Workers, Journal}
use Rattle.prv_line.specs.declared.option.Allowed.{Allowed}

-- how an option is written
abbrev pub option_word : OptionName → List ℕ
option_word Turns = codes "--turns"
option_word Lines = codes "--lines"
option_word Settlements = codes "--settlements"
option_word Workers = codes "--workers"
option_word Journal = codes "--journal"

-- a text is a value of the option
abbrev pub IsValue : OptionName → List ℕ → Type 0
IsValue Turns text = IsNumber TURNS.least TURNS.most text
IsValue Lines text = IsNumber LINES.least LINES.most text
IsValue Settlements text = IsNumber SETTLEMENTS.least SETTLEMENTS.most text
IsValue Workers text = IsNumber WORKERS.least WORKERS.most text
IsValue Journal text = IsName text

-- the settings with the option at this value
abbrev pub with_value : OptionName → List ℕ → Settings → Settings
with_value Turns text s = record s { turns = digits_value 10 text }
with_value Lines text s = record s { lines = digits_value 10 text }
with_value Settlements text s = record s { settlements = digits_value 10 text }
with_value Workers text s = record s { workers = digits_value 10 text }
with_value Journal text s = record s { journal = Some text }

-- an option as it is given: its name, its value, and whether they are joined in one word
pub record Choice : Type 0 where
  pub name : OptionName
  pub value : List ℕ
  pub joined : Bool

-- the word that an option begins with, where it holds a value and where it holds none
abbrev pub head_word : OptionName → Option (List ℕ) → List ℕ
head_word name None = option_word name
head_word name (Some value) = option_word name ++ codes "=" ++ value

-- the words of a choice
abbrev pub spelled : Choice → List (List ℕ)
spelled c = if c.joined then head_word c.name (Some c.value) ∷ [] else head_word c.name None ∷ c.value ∷ []

-- the options that may be given, and what is left of them behind one
abbrev pub is_allowed : Allowed → OptionName → Bool
is_allowed allowed Turns = allowed.turns
is_allowed allowed Lines = allowed.lines
is_allowed allowed Settlements = allowed.settlements
is_allowed allowed Workers = allowed.workers
is_allowed allowed Journal = allowed.journal

abbrev pub without : OptionName → Allowed → Allowed
without Turns allowed = record allowed { turns = false }
without Lines allowed = record allowed { lines = false }
without Settlements allowed = record allowed { settlements = false }
without Workers allowed = record allowed { workers = false }
without Journal allowed = record allowed { journal = false }

-- all five, and those of resume
abbrev pub all_options : Allowed
all_options = record { turns = true; lines = true; settlements = true; workers = true; journal = true }

abbrev pub resume_options : Allowed
resume_options = record { turns = false; lines = true; settlements = true; workers = true; journal = false }

-- each choice is one that may be given, has a value, and isn't given again behind
abbrev pub AreChoices : Allowed → List Choice → Type 0
AreChoices allowed [] = ⊤
AreChoices allowed (c ∷ more) = IsTrue (is_allowed allowed c.name) × IsValue c.name c.value × AreChoices (without c.name allowed) more

-- the settings that choices leave
abbrev pub settled : Settings → List Choice → Settings
settled s [] = s
settled s (c ∷ more) = settled (with_value c.name c.value s) more

-- words that are options, and make some settings out of others
pub record Options (allowed : Allowed) (from settings : Settings) (words : List (List ℕ)) : Type 0 where
  pub choices : List Choice
  pub are_choices : AreChoices allowed choices
  pub words_are : words ≡ flat_map spelled choices
  pub settings_are : settings ≡ settled from choices
