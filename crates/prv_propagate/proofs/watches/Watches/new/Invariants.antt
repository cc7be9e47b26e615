use Rattle.std.proofs.Common.{◌≡◌, [], replicate}
use Rattle.prv_propagate.proofs.watches.Watches.new.Given as goal

abbrev pub invariant-loop : goal.invariant-loop
invariant-loop l = l.lists.items ≡ replicate l.counter []
