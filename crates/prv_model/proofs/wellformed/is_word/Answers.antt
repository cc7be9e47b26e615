use Rattle.std.proofs.Common.{sym}
use Rattle.prv_model.proofs.WordLaws.{word-tested}
use Rattle.prv_model.proofs.wellformed.is_word.Goals as goal

pub returns : goal.returns
returns c = sym (word-tested c.args.n c.ranges.n)
