use Rattle.std.proofs.Common.{◌∙◌, ap, sym, subst, arith}
use Rattle.std.specs.Arc.{arc_value}
use Rattle.prv_board.specs.Replays.{Replay, with_one_more, Applies}
use Rattle.prv_board.proofs.ReplayLaws.{applies-next, prefix-next, known-at}
use Rattle.prv_board.proofs.board.Board.prefix.Goals as goal

pub apply_known-requires : goal.apply_known-requires
apply_known-requires c =
    let b = c.args.self.now.replay in
    let k = c.loop-k.k in
    let s = arc_value c.index-history-k.result in
    let at = known-at (λ a. arc_value a) c.history-history.result.now b.history k c.index-history-k.result c.history-history.ensures.value (omega arith) c.index-history-k.is in
    subst (λ (r : Replay). Applies r s) (sym c.loop-k.invariant) (applies-next b k s c.is_legal.ensures.replay at)

pub loop-k-preserved : goal.loop-k-preserved
loop-k-preserved c =
    let b = c.args.self.now.replay in
    let k = c.loop-k.k in
    let s = arc_value c.index-history-k.result in
    let at = known-at (λ a. arc_value a) c.history-history.result.now b.history k c.index-history-k.result c.history-history.ensures.value (omega arith) c.index-history-k.is in
    c.in_ok-apply_known.ensures ∙ ap (λ (r : Replay). with_one_more r s) c.loop-k.invariant ∙ sym (prefix-next b k s at)
