-- An answer that is right is the only one, but for want of memory.
use Rattle.std.proofs.Common.{ℕ, List, ap, Result, Ok, Err, IsErrOf}
use Rattle.prv_line.specs.Answers.{UnlessMemory, IsCommand}
use Rattle.prv_line.specs.Steps.{IsAnswer}
use Rattle.prv_line.specs.Commands.{Command}
use Rattle.prv_line.specs.Readings.{Reads}
use Rattle.prv_line.specs.Usages.{IsUsage}
use Rattle.prv_line.specs.Views.{command_of}
use Rattle.prv_line.specs.declared.command.Command as code
use Rattle.prv_line.specs.declared.error.LineError.{LineError}
use Rattle.prv_line.specs.declared.error.LineError.TheVariants.{Usage, Memory}
use Rattle.prv_line.proofs.Uniqueness.{one_reading, one_refusal, refused_or_read}

pub found : (words : List (List ℕ)) (r : Result code.Command LineError) → IsAnswer words r → (c : Command) → Reads c words → UnlessMemory r (IsCommand r c)
found words (Ok made) a c x = one_reading words (command_of made) c a x
found words (Err (Usage word)) a c x = refused_or_read Reads words word c a x
found words (Err Memory) a c x = tt

pub refused : (words : List (List ℕ)) (r : Result code.Command LineError) → IsAnswer words r → (word : ℕ) → IsUsage words word → UnlessMemory r (IsErrOf r (Usage word))
refused words (Ok made) a word x = absurd (refused_or_read Reads words word (command_of made) x a)
refused words (Err (Usage told)) a word x = ap (λ k. Err (Usage k)) (one_refusal Reads words told word a x)
refused words (Err Memory) a word x = tt
