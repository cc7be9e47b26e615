use Rattle.prv_sym.proofs.Walking.{reached-names}
use Rattle.prv_sym.proofs.evaluations.go_on.Goals as goal

pub returns-in-None-clause-reached : goal.returns-in-None-clause-reached
returns-in-None-clause-reached c = λ first w r. rw c.in-None.is r

pub returns-in-None-clause-names : goal.returns-in-None-clause-names
returns-in-None-clause-names c = λ first w r. rw c.in-None.is (reached-names first _ _ w _ r)

pub returns-in-Some-clause-reached : goal.returns-in-Some-clause-reached
returns-in-Some-clause-reached c = λ first w r. rw c.in-Some.is (c.evaluate.ensures.reached first w r)

pub returns-in-Some-clause-names : goal.returns-in-Some-clause-names
returns-in-Some-clause-names c = λ first w r. rw c.in-Some.is (c.evaluate.ensures.names first w r)
