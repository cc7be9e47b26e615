use Rattle.prv_lex.specs.Bytes.{is_digit}
use Rattle.prv_lex.proofs.RunLemmas.{run-passes}
use Rattle.prv_lex.proofs.front.other_front.Goals as goal

-- a run of digits is made of digits
pub number_at-requires-clause-all : goal.number_at-requires-clause-all
number_at-requires-clause-all c = rw c.digits_of.ensures (run-passes is_digit c.args.text.now)
