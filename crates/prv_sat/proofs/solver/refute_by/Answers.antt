use Rattle.std.proofs.Common.{◌≡◌, ◌∷◌, [], ap, ◌∙◌}
use Rattle.prv_check.specs.LogLines.{LogLine}
use Rattle.prv_sat.proofs.Finishing.{refutation_by}
use Rattle.prv_sat.proofs.solver.refute_by.Goals as goal

pub returns : goal.returns
returns c = λ lines numbers some.
    let log : c.in_ok-log.log ≡ record { clause = []; hints = c.args.number ∷ [] } ∷ [] = c.in_ok-log.ensures ∙ ap (λ (s : LogLine). s ∷ []) c.in_ok-line.ensures in
    refutation_by c.args.cnf.now c.args.number lines numbers c.in_ok-log.log c.requires.inside c.requires.empty some log
