use Rattle.std.proofs.Common.{◌≡◌, replicate}
use Rattle.prv_settle.proofs.probe.repeated.Given as goal

abbrev pub invariant-loop : goal.invariant-loop
invariant-loop l = l.input ≡ replicate l.counter l.word
