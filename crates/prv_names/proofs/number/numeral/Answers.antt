use Rattle.prv_model.proofs.WordLaws.{word-tested}
use Rattle.prv_names.proofs.number.numeral.Goals as goal

pub returns-clause-word : goal.returns-clause-word
returns-clause-word c = word-tested c.args.n c.ranges.n
