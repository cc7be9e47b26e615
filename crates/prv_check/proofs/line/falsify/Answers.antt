use Rattle.std.proofs.Common.{◌≡◌, ◌+◌, take, pos, arith}
use Rattle.prv_cnf.specs.declared.literal.Lit.{Lit}
use Rattle.prv_check.specs.Lines.{no_repeat}
use Rattle.prv_check.proofs.Falsifying.{negations_more, once_more}
use Rattle.prv_check.proofs.line.falsify.Goals as goal
use Rattle.prv_check.proofs.line.falsify.Goals.{then-once, else-once}

pub loop-lit-preserved : goal.loop-lit-preserved
loop-lit-preserved c =
    let d : Lit = record { 0 = pos 0 } in
    let trail = negations_more c.args.lits.now c.loop-lit.lit-index d c.loop-lit-test.true in
    let once = once_more c.args.lits.now c.loop-lit.lit-index d c.loop-lit-test.true in
    let answer : c.if-once.once ≡ no_repeat (take (c.loop-lit.lit-index + 1) c.args.lits.now) =
    elim c.if-once.branch [ then-once w ↦ grind (arith, once) | else-once w ↦ grind (arith, once) ] in
    (grind (arith, trail), answer, grind arith, grind arith)
