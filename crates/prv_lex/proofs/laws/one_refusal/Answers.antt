use Rattle.prv_lex.proofs.FileLemmas.{refusal-one}
use Rattle.prv_lex.proofs.laws.one_refusal.Goals as goal

pub returns : goal.returns
returns c = refusal-one
