use Rattle.prv_parse.proofs.Parsed.{tree-or-refusal, no-syntax, no-deep}
use Rattle.prv_parse.proofs.laws.tree_or_refusal.Goals as goal

pub returns-clause-either : goal.returns-clause-either
returns-clause-either c = tree-or-refusal

pub returns-clause-syntax : goal.returns-clause-syntax
returns-clause-syntax c = no-syntax

pub returns-clause-deep : goal.returns-clause-deep
returns-clause-deep c = no-deep
