use Rattle.prv_part.proofs.Truths.{empty-true, stuck-true, beyond-true, whole-true, found-true, left-true}
use Rattle.prv_part.proofs.laws.parts_are_true.Goals as goal

pub returns-clause-empty : goal.returns-clause-empty
returns-clause-empty c = empty-true

pub returns-clause-stuck : goal.returns-clause-stuck
returns-clause-stuck c = stuck-true

pub returns-clause-beyond : goal.returns-clause-beyond
returns-clause-beyond c = beyond-true

pub returns-clause-whole : goal.returns-clause-whole
returns-clause-whole c = whole-true

pub returns-clause-found : goal.returns-clause-found
returns-clause-found c = found-true

pub returns-clause-left : goal.returns-clause-left
returns-clause-left c = left-true
