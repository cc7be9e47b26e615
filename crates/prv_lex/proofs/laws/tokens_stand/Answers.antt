use Rattle.std.proofs.Common.{refl}
use Rattle.prv_lex.proofs.StandLemmas.{made-stand}
use Rattle.prv_lex.proofs.laws.tokens_stand.Goals as goal

pub returns : goal.returns
returns c file tokens has = made-stand 0 file file tokens refl has.made
