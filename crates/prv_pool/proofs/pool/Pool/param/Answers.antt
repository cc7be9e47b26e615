use Rattle.prv_pool.proofs.Shapes.{folded-Param}
use Rattle.prv_pool.proofs.pool.Pool.param.Goals as goal

pub intern-requires-clause-is_folded : goal.intern-requires-clause-is_folded
intern-requires-clause-is_folded c = folded-Param _
