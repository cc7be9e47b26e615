use Rattle.prv_rule.proofs.Laws.{one-kind, one-syntax, one-deep}
use Rattle.prv_parse.specs.Refusals.{IsText}
use Rattle.prv_parse.proofs.laws.one_refusal.Goals as goal

pub returns-clause-one_kind : goal.returns-clause-one_kind
returns-clause-one_kind c = λ tokens. one-kind IsText tokens

pub returns-clause-one_syntax : goal.returns-clause-one_syntax
returns-clause-one_syntax c = λ tokens. one-syntax IsText tokens

pub returns-clause-one_deep : goal.returns-clause-one_deep
returns-clause-one_deep c = λ tokens. one-deep IsText tokens
