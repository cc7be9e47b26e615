use Rattle.std.proofs.Common.{rules}
use Rattle.std.proofs.lemmas.Int.{wraps}
use Rattle.prv_run.proofs.evaluate.negate.Goals as goal

pub returns : goal.returns
returns c = search (rules, wraps)
