use Rattle.std.proofs.Common.{◌≡◌, drop}
use Rattle.prv_check.specs.Inner.Signatures.{signature, signature_with}
use Rattle.prv_check.proofs.signature.signature.Given as goal

abbrev pub invariant-loop-lit : goal.invariant-loop-lit
invariant-loop-lit l = signature_with l.bits (drop l.lit-index l.lits) ≡ signature l.lits
