use Rattle.std.proofs.Common.{◌≡◌, ◌<◌, ◌+◌, ◌-◌, ℕ, Option, Some, None, MatchOption, map, sum, arith, ap, ◌∙◌, refl}
use Rattle.prv_model.specs.Programs.{stmt_count}
use Rattle.prv_model.specs.declared.stmt.Stmt.{Stmt}
use Rattle.prv_model.proofs.ProgramLemmas.{stmt_count-Block}
use Rattle.prv_model.proofs.wellformed.+room.Goals as goal

-- one statement more, of the room that it takes
one_more : (o : Option ℕ) (room n m : ℕ) → (room ≡ 0 → ⊥) → m ≡ 1 + n →
    MatchOption o (room - 1 < n) (λ left. left + n ≡ room - 1) → MatchOption o (room < m) (λ left. left + m ≡ room)
one_more None room n m some e h = omega arith
one_more (Some left) room n m some e h = omega arith

pub room_after-returns-in-Block : goal.room_after-returns-in-Block
room_after-returns-in-Block t c =
    let all = c.as_slice.result.now in
    let count : stmt_count c.args.stmt.now ≡ 1 + sum (map (λ s. stmt_count s) all) = ap (λ (s : Stmt). stmt_count s) c.in-Block.is ∙ stmt_count-Block c.in-Block.all ∙ rw (c.as_slice.ensures) refl in
    one_more c.room_after_all.result c.args.room _ _ c.if-room-eq0.false count c.room_after_all.ensures
