use Rattle.prv_general.specs.Answers.{terms_at}
use Rattle.prv_settle.proofs.Joining.{IsJoined}
use Rattle.prv_settle.proofs.equality.all_equal.Given as goal

abbrev pub invariant-loop-k : goal.invariant-loop-k
invariant-loop-k l = IsJoined l.fn.pool l.pool (terms_at l.fn.pool.terms l.before) (terms_at l.fn.pool.terms l.after) l.k l.made
