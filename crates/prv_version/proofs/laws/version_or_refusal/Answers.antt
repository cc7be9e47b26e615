use Rattle.prv_version.proofs.OneAnswer.{given-not_refused}
use Rattle.prv_version.proofs.laws.version_or_refusal.Goals as goal

pub returns : goal.returns
returns c = given-not_refused
