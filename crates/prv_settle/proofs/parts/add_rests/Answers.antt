use Rattle.std.proofs.Common.{[], ◌∷◌, ◌++◌, ap, ◌∙◌, arith}
use Rattle.prv_part.specs.declared.part.Part.{Part}
use Rattle.prv_settle.proofs.Rests.{rests-none, rests-more, rests-all}
use Rattle.prv_settle.proofs.parts.add_rests.Goals as goal

pub loop-k-init : goal.loop-k-init
loop-k-init c = λ us ps middle are region literals negations. rests-none us ps c.args.parts.now.items

pub loop-k-preserved : goal.loop-k-preserved
loop-k-preserved c = λ us ps middle are region literals negations.
    rests-more _ us ps middle _ _ c.loop-k.k _ _ _ _ are region negations (omega (arith, literals, c.loop-k-test.true)) c.in_ok-rest.ensures (c.loop-k.invariant us ps middle are region literals negations)
    (c.in_ok-push.ensures.items ∙ ap (λ (part : Part). c.loop-k.parts.items ++ part ∷ []) c.unmarked.ensures)

pub returns : goal.returns
returns c = λ us ps middle are region literals negations. rests-all us ps _ _ _ (omega (arith, literals, c.loop-k-test.false)) (c.loop-k.invariant us ps middle are region literals negations)
