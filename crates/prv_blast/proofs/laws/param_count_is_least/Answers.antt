use Rattle.prv_model.specs.Terms.{IsTerm}
use Rattle.prv_blast.specs.Subterms.{param_count}
use Rattle.prv_blast.proofs.Growing.{all-recursive, recursive-all}
use Rattle.prv_blast.proofs.Standing.{params-over, params-least}
use Rattle.prv_blast.proofs.laws.param_count_is_least.Goals as goal

pub returns-clause-over : goal.returns-clause-over
returns-clause-over c = λ m terms known. recursive-all (IsTerm (param_count terms)) terms (params-over m terms (all-recursive (IsTerm m) terms known))

pub returns-clause-least : goal.returns-clause-least
returns-clause-least c = λ m terms known. params-least m terms (all-recursive (IsTerm m) terms known)
