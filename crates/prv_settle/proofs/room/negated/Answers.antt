use Rattle.std.proofs.Common.{ℕ, Result, Err, ap, ◌∙◌, subst}
use Rattle.prv_pool.specs.Folding.{negation}
use Rattle.prv_pool.specs.Tables.{Makes, term_at}
use Rattle.prv_pool.specs.declared.error.PoolError.{PoolError}
use Rattle.prv_settle.proofs.Rooms.{made-few, refused-few, has-room}
use Rattle.prv_settle.proofs.room.negated.Goals as goal

pub returns-in-Ok-clause-few : goal.returns-in-Ok-clause-few
returns-in-Ok-clause-few c = made-few _ _ _ _ c.len.ensures.table c.requires.node c.in-Ok.ensures

pub returns-in-Err-Memory-clause-few : goal.returns-in-Err-Memory-clause-few
returns-in-Err-Memory-clause-few c = refused-few _ _ _ _ c.in-Err-Memory.ensures

pub unreachable-requires : goal.unreachable-requires
unreachable-requires c =
    has-room _ _ _ c.len.ensures.table c.requires.node c.requires.room
    (subst (λ (r : Result ℕ PoolError). Makes (negation (term_at c.args.pool.now.terms c.args.node)) c.args.pool.now c.not.new.self r) (c.in-Err-Wide.is ∙ ap Err c.in-Err-Wide.field-0-is) c.not.ensures)
