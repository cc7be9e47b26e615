use Rattle.prv_lex.proofs.FileLemmas.{tokens-not_refused, settled-file}
use Rattle.prv_lex.proofs.laws.tokens_or_refusal.Goals as goal

pub returns-clause-either : goal.returns-clause-either
returns-clause-either c = settled-file

pub returns-clause-not_both : goal.returns-clause-not_both
returns-clause-not_both c = tokens-not_refused
