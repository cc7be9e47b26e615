-- What the program leaves behind.
use Rattle.std.specs.Prelude.{◌≡◌, ℕ, List, Option, ◌⊎◌, ⊤, Result, Ok, Err}
use Rattle.std.specs.Io.KnownBytes.{append_known}
use Rattle.prv_io.specs.Files.{ReadsInTurn}
use Rattle.prv_io.specs.Sink.{Output, TookAll, TookPart}
use Rattle.prv_model.specs.declared.program.Pair.{Pair}
use Rattle.prv_line.specs.Commands.{defaults, Command, Explore, Gen}
use Rattle.prv_text.specs.Boards.{board_report, generated_report}
use Rattle.prv_cli.specs.Steps.{Told, Trace, Step, Shown, reading, writing, ◌∙∙◌}
use Rattle.prv_cli.specs.Explores.{plan_of, ShowsExploration}
use Rattle.prv_cli.specs.Commands.{says}
use Rattle.prv_cli.specs.Statuses.{status_number}
use Rattle.prv_cli.specs.Refusals.{refusal_number, refusal_line}
use Rattle.prv_cli.specs.declared.status.Status.{Status}
use Rattle.prv_cli.specs.declared.refusal.Refusal.{Refusal}
use Rattle.prv_cli.specs.declared.refusal.Refusal.TheVariants as refusal

-- a call followed a step that writes nothing, on an object with files, and this is its answer. `reads` is one read, from a state of the object to the next
pub record Follows {S A : Type 0} (reads : S → List ℕ → S → Type 0) (told : Told) (before after : S) (step : Step A) (answer : Result A Refusal) : Type 0 where
  pub names : List (List ℕ)
  pub did : step told (reading names) answer
  pub read : ReadsInTurn reads before names after

-- a call followed a step, on an object with files and on an output, and this is its answer
pub record Performs {S A : Type 0} (reads : S → List ℕ → S → Type 0) (told : Told) (before after : S) (out_before out_after : Option (List ℕ)) (step : Step A) (answer : Result A Refusal) : Type 0 where
  pub trace : Trace
  pub did : step told trace answer
  pub read : ReadsInTurn reads before trace.reads after
  pub wrote : out_after ≡ append_known out_before trace.writes

-- the number with which the program ends
abbrev pub end_number : Result Status Refusal → ℕ
end_number (Ok status) = status_number status
end_number (Err why) = refusal_number why

-- a refusal's line was told: all of it, or a part up to a fault that was counted
abbrev pub IsTold : Refusal → Output → Output → Type 0
IsTold why before after = TookAll before after (refusal_line why) ⊎ TookPart before after (refusal_line why)

-- what the output for errors took: nothing where there is no refusal, and else its line
abbrev pub Tells : Result Status Refusal → Output → Output → Type 0
Tells (Ok status) before after = after ≡ before
Tells (Err why) before after = IsTold why before after

-- the program did what the words say, on these files and outputs and nothing else, and ends with this number
pub record Answered {S : Type 0} (reads : S → List ℕ → S → Type 0) (told : Told) (words : List (List ℕ)) (files_before files_after : S)
    (out_before out_after : Option (List ℕ)) (err_before err_after : Output) (number : ℕ) : Type 0 where
  pub answer : Result Status Refusal
  pub performs : Performs reads told files_before files_after out_before out_after (says words) answer
  pub tells : Tells answer err_before err_after
  pub number_is : number ≡ end_number answer

-- P, unless the answer is that a file couldn't be read, or that something couldn't be written
abbrev pub UnlessRead : {A : Type 0} → Result A Refusal → Type 0 → Type 0
UnlessRead (Err refusal.Read) P = ⊤
UnlessRead _ P = P

abbrev pub UnlessWrite : {A : Type 0} → Result A Refusal → Type 0 → Type 0
UnlessWrite (Err refusal.Write) P = ⊤
UnlessWrite _ P = P

-- a fault or want of memory, which what is known of the files doesn't decide
abbrev pub IsFree : Refusal → Type 0
IsFree refusal.Read = ⊤
IsFree refusal.Write = ⊤
IsFree refusal.Memory = ⊤
IsFree _ = ⊥

abbrev pub IsFreeAnswer : {A : Type 0} → Result A Refusal → Type 0
IsFreeAnswer (Ok value) = ⊥
IsFreeAnswer (Err why) = IsFree why

-- two answers are one, and the same was done before them, unless one is a fault or want of memory
abbrev pub Agree : {A : Type 0} → Trace → Result A Refusal → Trace → Result A Refusal → Type 0
Agree trace answer other another = ((trace ≡ other) × (answer ≡ another)) ⊎ (IsFreeAnswer answer ⊎ IsFreeAnswer another)

-- a command that searches for inputs and for logs
abbrev pub Searches : Command → Type 0
Searches (Explore before after settings) = ⊤
Searches (Gen number size) = ⊤
Searches _ = ⊥

-- what a command that searches may show of a pair
abbrev pub MayShow : Command → Pair → Shown → Type 0
MayShow (Explore before after settings) pair shown = ShowsExploration board_report (plan_of settings) pair shown
MayShow (Gen number size) pair shown = ShowsExploration (generated_report number size) (plan_of defaults) pair shown
MayShow _ pair shown = ⊥

-- two answers show explorations of one pair, and the same was done before they were written
pub record AreExplorations (c : Command) (trace : Trace) (answer : Result Status Refusal) (other : Trace) (another : Result Status Refusal) : Type 0 where
  pub pair : Pair
  pub first : Shown
  pub second : Shown
  pub explored : MayShow c pair first
  pub also_explored : MayShow c pair second
  pub front : Trace
  pub trace_is : trace ≡ front ∙∙ writing first.text
  pub other_is : other ≡ front ∙∙ writing second.text
  pub answer_is : answer ≡ Ok first.status
  pub another_is : another ≡ Ok second.status

-- two answers of a command are alike: they agree, or differ by what was found of one pair alone
abbrev pub AreAlike : Command → Trace → Result Status Refusal → Trace → Result Status Refusal → Type 0
AreAlike c trace answer other another = Agree trace answer other another ⊎ AreExplorations c trace answer other another
