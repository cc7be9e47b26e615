use Rattle.std.proofs.Common.{◌≡◌, length}
use Rattle.prv_select.proofs.choice.none_kept.Given as goal

abbrev pub invariant-loop : goal.invariant-loop
invariant-loop l = length l.kept ≡ l.counter
