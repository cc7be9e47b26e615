use Rattle.std.proofs.Common.{◌≡◌, ◌++◌, ◌∷◌, [], ◌∙◌}
use Rattle.prv_sat.proofs.Finishing.{refutation}
use Rattle.prv_sat.proofs.solver.refuted.Goals as goal

pub returns : goal.returns
returns c = λ lines numbers less within.
    let old = c.args.state.now.lines.items in
    let log : c.new-2.result ≡ old ++ c.args.line ∷ [] = c.new-2.ensures ∙ (rw c.replace-lines.ensures.value at c.in_ok-push.ensures.items) in
    rw log (refutation c.args.cnf.now old c.args.line lines numbers c.requires.learnt c.requires.end within less)
