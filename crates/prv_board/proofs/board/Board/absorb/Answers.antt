use Rattle.std.proofs.Common.{◌∙◌, sym, subst}
use Rattle.std.specs.Arc.{arc_value}
use Rattle.prv_board.specs.Replays.{Refuses}
use Rattle.prv_board.specs.declared.error.ApplyError.{ApplyError}
use Rattle.prv_board.proofs.ApplyingLaws.{absorbed-applied, absorbed-refused, stranger-never, full-never}
use Rattle.prv_board.proofs.board.Board.absorb.Goals as goal

pub returns-in-Ok-clause-absorbed : goal.returns-in-Ok-clause-absorbed
returns-in-Ok-clause-absorbed c = c.in-Ok.ensures.applied ∙ sym (absorbed-applied c.args.self.now.replay (arc_value c.args.settlement) c.in-Ok.ensures.applies)

pub returns-in-Err-Stranger-clause-absorbed : goal.returns-in-Err-Stranger-clause-absorbed
returns-in-Err-Stranger-clause-absorbed c =
    let b = c.args.self.now.replay in
    let s = arc_value c.args.settlement in
    let stranger = c.in-Err-Stranger in
    stranger.ensures.unchanged ∙ sym (absorbed-refused b s (stranger-never b s stranger.field-0-0 (subst (λ (e : ApplyError). Refuses b s e) stranger.field-0-is stranger.ensures.refused)))

pub returns-in-Err-Full-clause-absorbed : goal.returns-in-Err-Full-clause-absorbed
returns-in-Err-Full-clause-absorbed c =
    let b = c.args.self.now.replay in
    let s = arc_value c.args.settlement in
    let full = c.in-Err-Full in
    full.ensures.unchanged ∙ sym (absorbed-refused b s (full-never b s full.field-0-0 (subst (λ (e : ApplyError). Refuses b s e) full.field-0-is full.ensures.refused)))
