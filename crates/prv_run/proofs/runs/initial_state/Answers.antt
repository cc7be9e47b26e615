use Rattle.std.proofs.Common.{◌++◌, ap, ◌∙◌, ℤ, List, pos, append_assoc, [], ◌∷◌}
use lib.ListN.{replicate, replicate-append-replicate}
use Rattle.prv_run.proofs.runs.initial_state.Goals as goal

pub loop-preserved : goal.loop-preserved
loop-preserved c =
    let words = c.args.words.now in
    c.in_ok-push.ensures.ok
    ∙ ap (λ (s : List ℤ). s ++ pos 0 ∷ []) c.loop.invariant
    ∙ append_assoc words (replicate c.loop.counter (pos 0)) (pos 0 ∷ [])
    ∙ ap (λ (r : List ℤ). words ++ r) (replicate-append-replicate c.loop.counter 1 (pos 0))
