use Rattle.std.proofs.Common.{sym, ◌∙◌}
use Rattle.prv_model.proofs.VerdictLaws.{outcome-same, outcome-equal}
use Rattle.prv_model.proofs.outcome.Outcome.same.Goals as goal

pub returns : goal.returns
returns c = (λ h. outcome-same _ _ (sym c.same_outcome.ensures ∙ h), λ e. c.same_outcome.ensures ∙ outcome-equal _ _ e)
