use Rattle.prv_cli.proofs.AlikeEach.{one-says, alike-says}
use Rattle.prv_cli.proofs.laws.one_answer.Goals as goal

pub returns-clause-one : goal.returns-clause-one
returns-clause-one c = λ told words trace other answer another all never. one-says told words all never trace other answer another

pub returns-clause-alike : goal.returns-clause-alike
returns-clause-alike c = λ told words command trace other answer another all reads. alike-says told words command all reads trace other answer another
