use Rattle.std.proofs.Common.{length, arith}
use Rattle.prv_lex.proofs.FormLemmas.{made-reads}
use Rattle.prv_lex.proofs.ReadingLemmas.{reads-rise}
use Rattle.prv_lex.proofs.laws.places_rise.Goals as goal

pub returns : goal.returns
returns c file tokens has = reads-rise 0 (length file) 0 file tokens (omega arith) (omega arith) (made-reads 0 file tokens has.made)
