-- What the private functions of the reader answer. No public contract names these.
use Rattle.std.specs.Prelude.{◌≡◌, ℕ, ◌+◌, Bool, IsTrue, ⊤, List, ◌∷◌, ◌++◌, length, Option, None, Some, Result, Ok, Err, if◌then◌else◌}
use Rattle.prv_line.specs.Options.{spelled, is_allowed}
use Rattle.prv_line.specs.Readings.{Reads}
use Rattle.prv_line.specs.Usages.{IsRefused, IsUsage}
use Rattle.prv_line.specs.Views.{command_of}
use Rattle.prv_line.specs.declared.command.Command as code
use Rattle.prv_line.specs.declared.error.LineError.{LineError}
use Rattle.prv_line.specs.declared.error.LineError.TheVariants.{Usage, Memory}
use Rattle.prv_line.specs.declared.option.OptionName.{OptionName}
use Rattle.prv_line.specs.declared.option.Allowed.{Allowed}

-- a refusal tells the word, counted from `first`, that the reading refuses; want of memory tells nothing
abbrev pub Tells : {V : Type 0} → (V → List (List ℕ) → Type 0) → List (List ℕ) → ℕ → LineError → Type 0
Tells R words first (Usage word) = (k : ℕ) × (word ≡ first + k) × IsRefused R words k
Tells R words first Memory = ⊤

-- an answer is the command that the words read as, or tells the word that is refused
abbrev pub IsAnswer : List (List ℕ) → Result code.Command LineError → Type 0
IsAnswer words (Ok found) = Reads (command_of found) words
IsAnswer words (Err (Usage word)) = IsUsage words word
IsAnswer words (Err Memory) = ⊤

-- how many options may be given
abbrev pub option_count : Allowed → ℕ
option_count allowed = count allowed.turns + count allowed.lines + count allowed.settlements + count allowed.workers + count allowed.journal
  where
    count : Bool → ℕ
    count b = if b then 1 else 0

-- the words begin with an option that may be given; word `at` is its first, and word `last` holds its value
pub record TakesOption (allowed : Allowed) (words : List (List ℕ)) (at : ℕ) (name : OptionName) (value : List ℕ) (last : ℕ) (behind : List (List ℕ)) : Type 0 where
  pub joined : Bool
  pub words_are : words ≡ spelled (record { name = name; value = value; joined = joined }) ++ behind
  pub may : IsTrue (is_allowed allowed name)
  pub last_is : last + 1 ≡ at + length (spelled (record { name = name; value = value; joined = joined }))

-- an option that begins in word `at` takes its value from there, where there is one, and else from the words behind
abbrev pub TakesValue : OptionName → Option (List ℕ) → List (List ℕ) → ℕ → OptionName → List ℕ → ℕ → List (List ℕ) → Type 0
TakesValue option (Some held) words at name value last behind = (name ≡ option) × (value ≡ held) × (last ≡ at) × (behind ≡ words)
TakesValue option None words at name value last behind = (name ≡ option) × (words ≡ value ∷ behind) × (last ≡ at + 1)
