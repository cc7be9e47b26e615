use Rattle.prv_model.proofs.WordLaws.{term_has_a_word}
use Rattle.prv_model.proofs.laws.term_has_a_word.Goals as goal

pub returns : goal.returns
returns c = term_has_a_word
