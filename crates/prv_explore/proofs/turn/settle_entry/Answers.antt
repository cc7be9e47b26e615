use Rattle.std.proofs.Common.{◌≡◌, Ok, Err, Result}
use Rattle.std.specs.Prelude.{IfOk}
use Rattle.std.specs.Arc.{arc_value}
use Rattle.prv_settle.specs.Pairings.{Supported}
use Rattle.prv_settle.specs.Settlings.{IsSettled}
use Rattle.prv_settle.specs.Supported.{finding_of}
use Rattle.prv_explore.specs.Turns.{IsOfEntry}
use Rattle.prv_explore.proofs.Turning.{settled-of}
use Rattle.prv_explore.proofs.turn.settle_entry.Goals as goal

-- two facts of what is answered give a third
both-ok : {A E : Type 0} (P Q R : A → Type 0) (r : Result A E) → ((a : A) → P a → Q a → R a) → IfOk r P → IfOk r Q → IfOk r R
both-ok P Q R (Ok a) gives p q = gives a p q
both-ok P Q R (Err e) gives p q = tt

pub returns : goal.returns
returns c =
    let b = c.args.board.now.replay in
    let part = c.in-Some.part.now in
    let pair = arc_value c.pair.result.now in
    let entry = c.args.entry in
    let lines = c.args.lines in
    both-ok (λ (s : Supported). IsSettled pair part.region entry lines s.raw) (λ (s : Supported). s.finding ≡ finding_of pair part.region s.raw) (λ (s : Supported). IsOfEntry b entry lines s.finding s.raw) c.settle.result
    (λ s settled found. settled-of b entry lines part pair s.finding s.raw c.in-Some.ensures.value c.pair.ensures settled found) c.settle.ensures.settled c.settle.ensures.finding
