use Rattle.std.proofs.Common.{◌-◌, length}
use Rattle.prv_lex.proofs.ScanLemmas.{Scanned}
use Rattle.prv_lex.proofs.scan.tokens.Given as goal

abbrev pub invariant-loop-place : goal.invariant-loop-place
invariant-loop-place l = Scanned l.bytes l.found.items l.place

abbrev pub decreases-loop-place : goal.decreases-loop-place
decreases-loop-place l = length l.bytes - l.place
