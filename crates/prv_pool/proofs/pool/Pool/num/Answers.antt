use Rattle.prv_pool.proofs.Shapes.{folded-Num}
use Rattle.prv_pool.proofs.pool.Pool.num.Goals as goal

pub intern-requires-clause-is_folded : goal.intern-requires-clause-is_folded
intern-requires-clause-is_folded c = folded-Num _
