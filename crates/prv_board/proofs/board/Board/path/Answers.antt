use Rattle.std.proofs.Common.{◌≡◌, ◌++◌, ◌∷◌, [], ◌∙◌, ℕ, List, refl, ap, sym, subst, arith}
use Rattle.prv_board.specs.Paths.{IsWayTo}
use Rattle.prv_board.specs.Replays.{slots}
use Rattle.prv_board.proofs.FindLaws.{holds-first, holds-within, way-first, way-push}
use Rattle.prv_board.proofs.board.Board.path.Goals as goal

pub loop-next-init : goal.loop-next-init
loop-next-init c =
    let b = c.args.self.now.replay in
    let x = c.args.input.now in
    let here = holds-first b x c.requires.inside in
    let P : List ℕ → Type 0 = λ path. IsWayTo b x path 0 in
    let is : c.push.new.self.items ≡ 0 ∷ [] = c.in_ok-push.ensures.items ∙ ap (λ (path : List ℕ). path ++ 0 ∷ []) c.new-path.ensures.items in
    record { here = here; way = subst P (sym is) (way-first b x here); room = refl }

pub loop-next-smaller : goal.loop-next-smaller
loop-next-smaller c =
    let down = c.in-Some.ensures.step in
    omega (arith, down.later, holds-within (slots c.args.self.now.replay) c.args.input.now c.in-Some.next down.holds)

pub loop-next-preserved : goal.loop-next-preserved
loop-next-preserved c =
    let b = c.args.self.now.replay in
    let x = c.args.input.now in
    let down = c.in-Some.ensures.step in
    let P : List ℕ → Type 0 = λ path. IsWayTo b x path c.in-Some.next in
    record {
      here = down.holds;
      way = subst P (sym c.in_ok-push-2.ensures.items) (way-push b x c.loop-next.path.items c.loop-next.number c.in-Some.next c.loop-next.invariant.way down);
      room = c.in-Some.ensures.room ∙ c.loop-next.invariant.room;
    }
