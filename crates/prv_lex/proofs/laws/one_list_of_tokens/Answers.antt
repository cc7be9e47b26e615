use Rattle.prv_lex.proofs.FileLemmas.{tokens-one}
use Rattle.prv_lex.proofs.laws.one_list_of_tokens.Goals as goal

pub returns : goal.returns
returns c = tokens-one
