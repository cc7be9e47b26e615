use Rattle.std.specs.Io.KnownBytes.{Keeps}
use Rattle.prv_io.proofs.host_sink.write_once.Given as goal

-- an interrupted write takes nothing
abbrev pub invariant-loop : goal.invariant-loop
invariant-loop g l = Keeps (g.W.Write.contents l.initial.out) (g.W.Write.contents l.out)
