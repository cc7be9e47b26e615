use Rattle.prv_model.proofs.VerdictLaws.{beyond_law, same_law, differ_law}
use Rattle.prv_model.proofs.laws.one_verdict.Goals as goal

pub returns-clause-beyond : goal.returns-clause-beyond
returns-clause-beyond c = beyond_law

pub returns-clause-same : goal.returns-clause-same
returns-clause-same c = same_law

pub returns-clause-differ : goal.returns-clause-differ
returns-clause-differ c = differ_law
