use Rattle.std.proofs.Common.{sym}
use Rattle.prv_pool.specs.Tables.{term_at}
use Rattle.prv_pool.proofs.TableLemmas.{lacks-at}
use Rattle.prv_pool.proofs.pool.Pool.is_with_zero.Goals as goal

pub returns-in-None : goal.returns-in-None
returns-in-None c = sym (lacks-at c.args.self.now c.in-None.ensures.table c.args.n c.args.op (term_at c.args.self.now.terms c.args.k) c.requires.node c.in-None.ensures.absent)
