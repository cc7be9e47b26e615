use Rattle.std.proofs.Common.{sym, subst}
use Rattle.prv_gate.specs.Bits.{IsBit}
use Rattle.prv_gate.specs.declared.bit.Bit.{Bit}
use Rattle.prv_gate.specs.declared.bit.Bit.TheVariants.{False}
use Rattle.prv_gate.proofs.Steps.{constant-inside}
use Rattle.prv_arith.proofs.ListLaws.{bits-replicate, bits-set}
use Rattle.prv_arith.proofs.tests.constant.Goals as goal

pub loop-i-init : goal.loop-i-init
loop-i-init c = λ n. bits-replicate n 32 False tt

pub loop-i-preserved : goal.loop-i-preserved
loop-i-preserved c = λ n.
    let P : Bit → Type 0 = λ b. IsBit n b in
    bits-set n c.loop-i.bits c.loop-i.i c.from-bit.result (c.loop-i.invariant n) (subst P (sym c.from-bit.ensures) (constant-inside n _))
