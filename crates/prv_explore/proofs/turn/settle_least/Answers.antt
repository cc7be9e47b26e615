use Rattle.std.proofs.Common.{◌∙◌, subst}
use Rattle.std.specs.Arc.{arc_value}
use Rattle.prv_board.specs.Replays.{Refuses}
use Rattle.prv_board.specs.declared.error.ApplyError.{ApplyError}
use Rattle.prv_explore.proofs.Turning.{turned-made, turned-full, never-stranger}
use Rattle.prv_explore.proofs.turn.settle_least.Goals as goal

pub returns-in-Ok-clause-turned : goal.returns-in-Ok-clause-turned
returns-in-Ok-clause-turned c =
    let b = c.args.board.now.replay in
    let s = c.in_ok-settled.settled in
    let t = arc_value c.in_ok-settlement.settlement in
    turned-made b c.apply.new.self.replay c.args.first c.args.lines c.in-Some.entry s.finding t s.raw c.requires.below c.in-Some.ensures c.in_ok-settled.ensures c.settlement.ensures.supported
    (c.in_ok-settlement.ensures ∙ c.settlement.ensures.value) c.in-Ok.ensures.applies c.in-Ok.ensures.applied

pub returns-in-Err-Full-clause-turned : goal.returns-in-Err-Full-clause-turned
returns-in-Err-Full-clause-turned c =
    let b = c.args.board.now.replay in
    let s = c.in_ok-settled.settled in
    let t = arc_value c.in_ok-settlement.settlement in
    let full = c.in-Err-Full in
    turned-full b c.apply.new.self.replay c.args.first c.args.lines c.in-Some.entry full.reached s.finding t s.raw c.requires.below c.in-Some.ensures c.in_ok-settled.ensures c.settlement.ensures.supported
    (c.in_ok-settlement.ensures ∙ c.settlement.ensures.value) (subst (λ (e : ApplyError). Refuses b t e) full.field-0-is full.ensures.refused) full.ensures.unchanged

pub unreachable-requires : goal.unreachable-requires
unreachable-requires c =
    let b = c.args.board.now.replay in
    let s = c.in_ok-settled.settled in
    let t = arc_value c.in_ok-settlement.settlement in
    let stranger = c.in-Err-Stranger in
    never-stranger b c.in-Some.entry c.args.lines s.finding t s.raw stranger.field-0-0 c.in-Some.ensures.claimable c.in_ok-settled.ensures (c.in_ok-settlement.ensures ∙ c.settlement.ensures.value)
    (subst (λ (e : ApplyError). Refuses b t e) stranger.field-0-is stranger.ensures.refused)
