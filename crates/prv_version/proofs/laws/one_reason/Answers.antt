use Rattle.prv_version.proofs.OneAnswer.{refused-one}
use Rattle.prv_version.proofs.laws.one_reason.Goals as goal

pub returns : goal.returns
returns c = refused-one
