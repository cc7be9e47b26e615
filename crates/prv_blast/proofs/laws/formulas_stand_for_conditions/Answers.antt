use Rattle.prv_model.specs.Terms.{IsTerm}
use Rattle.prv_blast.proofs.Growing.{all-recursive}
use Rattle.prv_blast.proofs.Standing.{formula-stands, formula-within}
use Rattle.prv_blast.proofs.laws.formulas_stand_for_conditions.Goals as goal

pub returns-clause-stands : goal.returns-clause-stands
returns-clause-stands c = λ terms known cheap. formula-stands terms (all-recursive (IsTerm 8) terms known) cheap

pub returns-clause-size : goal.returns-clause-size
returns-clause-size c = λ terms known cheap. formula-within terms (all-recursive (IsTerm 8) terms known) cheap
