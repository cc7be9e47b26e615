-- What reads as a command has its numbers in range.
use Rattle.std.proofs.Common.{◌≡◌, ℕ, ◌≤◌, Bool, true, false, List, [], ◌∷◌, ℤ, Result, Ok, Err, refl, sym, subst, arith, codes}
use Rattle.std.specs.Prelude.{IfOk}
use Rattle.std.specs.Str.Parse.{digits_value}
use Rattle.prv_line.specs.Commands.{Settings, defaults, Command, Run, Point, Slice, Explore, Live, Resume, Check, Gen}
use Rattle.prv_line.specs.Options.{IsValue, with_value, Choice, AreChoices, settled, Options, without, all_options, resume_options}
use Rattle.prv_line.specs.Ranges.{AreInRange, IsInRange}
use Rattle.prv_line.specs.Readings.{Word, Named, Number, End, Reads}
use Rattle.prv_line.specs.Steps.{IsAnswer}
use Rattle.prv_line.specs.Views.{command_of}
use Rattle.prv_line.specs.declared.command.Command as code
use Rattle.prv_line.specs.declared.error.LineError.{LineError}
use Rattle.prv_line.specs.declared.option.OptionName.{OptionName}
use Rattle.prv_line.specs.declared.option.OptionName.TheVariants.{Turns, Lines, Settlements, Workers, Journal}
use Rattle.prv_line.specs.declared.option.Allowed.{Allowed}

pub defaults-in_range : AreInRange defaults
defaults-in_range = record {
  some_turns = omega arith;
  few_turns = omega arith;
  some_lines = omega arith;
  few_lines = omega arith;
  some_settlements = omega arith;
  few_settlements = omega arith;
  few_workers = omega arith;
}

value-in_range : (name : OptionName) (text : List ℕ) (s : Settings) → IsValue name text → AreInRange s → AreInRange (with_value name text s)
value-in_range Turns text s is range = record {
  some_turns = is.low;
  few_turns = is.high;
  some_lines = range.some_lines;
  few_lines = range.few_lines;
  some_settlements = range.some_settlements;
  few_settlements = range.few_settlements;
  few_workers = range.few_workers;
}
value-in_range Lines text s is range = record {
  some_turns = range.some_turns;
  few_turns = range.few_turns;
  some_lines = is.low;
  few_lines = is.high;
  some_settlements = range.some_settlements;
  few_settlements = range.few_settlements;
  few_workers = range.few_workers;
}
value-in_range Settlements text s is range = record {
  some_turns = range.some_turns;
  few_turns = range.few_turns;
  some_lines = range.some_lines;
  few_lines = range.few_lines;
  some_settlements = is.low;
  few_settlements = is.high;
  few_workers = range.few_workers;
}
value-in_range Workers text s is range = record {
  some_turns = range.some_turns;
  few_turns = range.few_turns;
  some_lines = range.some_lines;
  few_lines = range.few_lines;
  some_settlements = range.some_settlements;
  few_settlements = range.few_settlements;
  few_workers = is.high;
}
value-in_range Journal text s is range = record {
  some_turns = range.some_turns;
  few_turns = range.few_turns;
  some_lines = range.some_lines;
  few_lines = range.few_lines;
  some_settlements = range.some_settlements;
  few_settlements = range.few_settlements;
  few_workers = range.few_workers;
}

settled-in_range : (allowed : Allowed) (choices : List Choice) (s : Settings) → AreChoices allowed choices → AreInRange s → AreInRange (settled s choices)
settled-in_range allowed [] s are range = range
settled-in_range allowed (c ∷ more) s are range =
    settled-in_range (without c.name allowed) more (with_value c.name c.value s) are.2 (value-in_range c.name c.value s are.1 range)

options-in_range : (allowed : Allowed) (s : Settings) (words : List (List ℕ)) → Options allowed defaults s words → AreInRange s
options-in_range allowed s words o =
    let P : Settings → Type 0 = λ x. AreInRange x in
    subst P (sym o.settings_are) (settled-in_range allowed o.choices defaults o.are_choices defaults-in_range)

-- what is read behind a first word, and behind two names
behind-word : (P : List (List ℕ) → Type 0) (Q : Type 0) (word : List ℕ) (words : List (List ℕ)) → ((rest : List (List ℕ)) → P rest → Q) → Word word P words → Q
behind-word P Q word [] next is = absurd is
behind-word P Q word (first ∷ rest) next is = next rest is.1

two-names : (P : List (List ℕ) → Type 0) (Q : Type 0) (command before after : List ℕ) (words : List (List ℕ)) → ((rest : List (List ℕ)) → P rest → Q) → Word command (Named before (Named after P)) words → Q
two-names P Q command before after words next is =
    behind-word (Named before (Named after P)) Q command words
    (λ rest named. behind-word (Named after P) Q before rest (λ more last. behind-word P Q after more next last.1) named.1) is

size-in_range : (size : ℕ) (words : List (List ℕ)) → Number 1 50 size End words → (1 ≤ size) × (size ≤ 50)
size-in_range size [] is = absurd is
size-in_range size (word ∷ rest) is = (omega (arith, is.0.low, is.1), omega (arith, is.0.high, is.1))

gen-in_range : (number size : ℕ) (words : List (List ℕ)) → Number 0 4294967295 number (Number 1 50 size End) words → (1 ≤ size) × (size ≤ 50)
gen-in_range number size [] is = absurd is
gen-in_range number size (word ∷ rest) is = size-in_range size rest is.2

pub reads-in_range : (c : Command) (words : List (List ℕ)) → Reads c words → IsInRange c
reads-in_range (Run file input) words is = tt
reads-in_range (Point before after input) words is = tt
reads-in_range (Slice file input) words is = tt
reads-in_range (Explore before after settings) words is =
    two-names (Options all_options defaults settings) (AreInRange settings) (codes "explore") before after words (options-in_range all_options settings) is
reads-in_range (Live before after settings) words is =
    two-names (Options all_options defaults settings) (AreInRange settings) (codes "live") before after words (options-in_range all_options settings) is
reads-in_range (Resume journal lines settlements workers) words is =
    let s : Settings = record defaults { lines = lines; settlements = settlements; workers = workers } in
    behind-word (Named journal (Options resume_options defaults s)) (AreInRange s) (codes "resume") words
    (λ rest named. behind-word (Options resume_options defaults s) (AreInRange s) journal rest (options-in_range resume_options s) named.1) is
reads-in_range (Check journal) words is = tt
reads-in_range (Gen number size) words is =
    behind-word (Number 0 4294967295 number (Number 1 50 size End)) ((1 ≤ size) × (size ≤ 50)) (codes "gen") words (gen-in_range number size) is

-- so has an answer of the reader
pub answer-in_range : (words : List (List ℕ)) (answer : Result code.Command LineError) → IsAnswer words answer → IfOk answer (λ found. IsInRange (command_of found))
answer-in_range words (Ok found) is = reads-in_range (command_of found) words is
answer-in_range words (Err why) is = tt
