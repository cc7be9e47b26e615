use Rattle.prv_bits.proofs.WordLaws.{word-bits_of, bits_of-word, IsWord-word, is_zero-word}
use Rattle.prv_bits.proofs.numbers.words.Goals as goal

pub returns-clause-word : goal.returns-clause-word
returns-clause-word c = word-bits_of

pub returns-clause-bits : goal.returns-clause-bits
returns-clause-bits c = bits_of-word

pub returns-clause-in_range : goal.returns-clause-in_range
returns-clause-in_range c = IsWord-word

pub returns-clause-zero : goal.returns-clause-zero
returns-clause-zero c = is_zero-word
