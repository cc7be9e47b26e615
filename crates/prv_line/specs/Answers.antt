-- What an answer of the reader says about the words.
use Rattle.std.specs.Prelude.{◌≡◌, ⊤, Result, Ok, Err}
use Rattle.prv_line.specs.Commands.{Command}
use Rattle.prv_line.specs.Views.{command_of}
use Rattle.prv_line.specs.declared.error.LineError.{LineError}
use Rattle.prv_line.specs.declared.error.LineError.TheVariants.{Usage, Memory}
use Rattle.prv_line.specs.declared.command.Command as code

-- P, unless memory ran out
abbrev pub UnlessMemory : {T : Type 0} → Result T LineError → Type 0 → Type 0
UnlessMemory (Ok x) P = P
UnlessMemory (Err (Usage word)) P = P
UnlessMemory (Err Memory) P = ⊤

-- an answer is this command
abbrev pub IsCommand : Result code.Command LineError → Command → Type 0
IsCommand (Ok found) c = command_of found ≡ c
IsCommand (Err e) c = ⊥
