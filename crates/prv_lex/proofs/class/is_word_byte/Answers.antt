use Rattle.prv_lex.proofs.ClassLemmas.{word_byte-listed}
use Rattle.prv_lex.proofs.class.is_word_byte.Goals as goal

pub returns : goal.returns
returns c = word_byte-listed c.args.b c.ranges.b.fits
