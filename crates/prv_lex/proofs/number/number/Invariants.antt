use Rattle.std.proofs.Common.{◌≡◌, ◌≤◌, take}
use Rattle.prv_lex.specs.Numbers.{value}
use Rattle.prv_lex.proofs.number.number.Given as goal

abbrev pub invariant-loop-digit : goal.invariant-loop-digit
invariant-loop-digit l = record { so_far : l.value ≡ value (take l.digit-index l.digits); small : l.value ≤ 2147483647 }
