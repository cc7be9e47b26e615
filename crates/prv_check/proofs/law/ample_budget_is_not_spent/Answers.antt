use Rattle.prv_check.proofs.Spending.{ample_not_spent}
use Rattle.prv_check.proofs.law.ample_budget_is_not_spent.Goals as goal

pub returns : goal.returns
returns c = ample_not_spent
