-- What a command does, put together from steps in the order in which they may be refused.
use Rattle.std.specs.Prelude.{◌≡◌, ℕ, ◌<◌, List, [], ◌++◌, length, take, ◌⊎◌, Result, Ok, Err}
use Rattle.prv_io.specs.Files.{Known}
use Rattle.prv_cli.specs.declared.status.Status.{Status}
use Rattle.prv_cli.specs.declared.refusal.Refusal.{Refusal}
use Rattle.prv_cli.specs.declared.refusal.Refusal.TheVariants.{Write}

-- what is known of the files, by their names
abbrev pub Told : Type 0
Told = List ℕ → Known

-- what was done: the files that were read, by their names and in order, and the bytes that the output took
pub record Trace : Type 0 where
  pub reads : List (List ℕ)
  pub writes : List ℕ

-- nothing was done
abbrev pub nothing : Trace
nothing = record { reads = []; writes = [] }

-- these files were read, and nothing else was done
abbrev pub reading : List (List ℕ) → Trace
reading names = record { reads = names; writes = [] }

-- the output took these bytes, and nothing else was done
abbrev pub writing : List ℕ → Trace
writing bytes = record { reads = []; writes = bytes }

-- one after the other
abbrev pub ◌∙∙◌ : Trace → Trace → Trace
◌∙∙◌ first rest = record { reads = first.reads ++ rest.reads; writes = first.writes ++ rest.writes }

infixl 30 ◌∙∙◌
-- a step: what it may do and answer, by what is known of the files
abbrev pub Step : Type 0 → Type 1
Step A = Told → Trace → Result A Refusal → Type 0

-- the first step passed, and those behind it answered
pub record Passes {A B : Type 0} (first : Step A) (next : A → Step B) (told : Told) (trace : Trace) (answer : Result B Refusal) : Type 0 where
  pub value : A
  pub before : Trace
  pub behind : Trace
  pub trace_is : trace ≡ before ∙∙ behind
  pub passed : first told before (Ok value)
  pub answered : next value told behind answer

-- a step, and then those that take its value; where the first is refused, all are
infixl 10 ◌>>=◌
abbrev pub ◌>>=◌ : {A B : Type 0} → Step A → (A → Step B) → Step B
◌>>=◌ first next told trace (Ok value) = Passes first next told trace (Ok value)
◌>>=◌ first next told trace (Err why) = first told trace (Err why) ⊎ Passes first next told trace (Err why)

infixl 10 ◌>>◌
abbrev pub ◌>>◌ : {A B : Type 0} → Step A → Step B → Step B
◌>>◌ first next = first >>= λ _. next

-- a step that does nothing but answer: values of one kind, refusals of another
abbrev pub answers : {A : Type 0} → (A → Type 0) → (Refusal → Type 0) → Step A
answers Gives Refuses told trace (Ok value) = (trace ≡ nothing) × Gives value
answers Gives Refuses told trace (Err why) = (trace ≡ nothing) × Refuses why

-- the output takes these bytes, or some of the first of them, and not all, where it fails
abbrev pub write : List ℕ → Step (Unit {0})
write bytes told trace (Ok _) = trace ≡ writing bytes
write bytes told trace (Err Write) = (count : ℕ) × (count < length bytes) × (trace ≡ writing (take count bytes))
write bytes told trace (Err _) = ⊥

-- what is shown, and the status that comes with it
pub record Shown : Type 0 where
  pub text : List ℕ
  pub status : Status

-- it is written, and the status is answered
abbrev pub writes : Shown → Step Status
writes shown = do
  write shown.text
  answers (λ status. status ≡ shown.status) (λ _. ⊥)
