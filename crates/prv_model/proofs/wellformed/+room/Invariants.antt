use Rattle.std.proofs.Common.{◌≡◌, ◌+◌, map, drop, sum}
use Rattle.prv_model.specs.Programs.{stmt_count}
use Rattle.prv_model.proofs.wellformed.+room.Given as goal

abbrev pub invariant-room_after_all-loop-stmt : goal.invariant-room_after_all-loop-stmt
invariant-room_after_all-loop-stmt l = l.left + sum (map (λ s. stmt_count s) l.all) ≡ l.room + sum (map (λ s. stmt_count s) (drop l.stmt-index l.all))
