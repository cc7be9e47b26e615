use Rattle.std.proofs.Common.{◌≤◌, ◌^◌, ◌∙◌, length}
use denote.Bor.{Bor}
use Rattle.prv_part.specs.declared.part.Part.{Part}
use Rattle.prv_part.specs.Parts.{IsOver}
use Rattle.prv_board.specs.Kept.{replay_of}
use Rattle.prv_board.specs.Slots.{part_at}
use Rattle.prv_board.specs.Replays.{slots}
use Rattle.prv_board.proofs.TreeLaws.{stand-part_at}
use Rattle.prv_board.proofs.EntryLaws.{entry-over, entry-few, lent}
use Rattle.prv_board.proofs.board.Board.entry.Goals as goal

pub returns-clause-value : goal.returns-clause-value
returns-clause-value c =
    let i = c.self.inside in
    rw (← c.self.view_is)
    (rw (c.as_slice.ensures.value, c.as_slice-2.ensures.value, c.as_slice-3.ensures.value) at c.entry_at.ensures
    ∙ stand-part_at i.whole (replay_of i).history i.origins.items i.retired.items (slots (replay_of i)) c.args.number c.self.invariant.tree.stand)

pub returns-clause-known : goal.returns-clause-known
returns-clause-known c =
    let i = c.self.inside in
    let b = replay_of i in
    let at = rw (c.as_slice.ensures.value, c.as_slice-2.ensures.value, c.as_slice-3.ensures.value) at c.entry_at.ensures
    ∙ stand-part_at i.whole b.history i.origins.items i.retired.items (slots b) c.args.number c.self.invariant.tree.stand in
    rw (← c.self.view_is)
    (lent (λ (x : Bor Part). x.now) c.entry_at.result (part_at (slots b) c.args.number) (λ p. IsOver b.pair.before.params p.region) at
    (λ p is. entry-over b i.whole i.origins.items i.retired.items i.counts i.totals c.args.number p c.self.invariant.tree is))

pub returns-clause-few : goal.returns-clause-few
returns-clause-few c =
    let i = c.self.inside in
    let b = replay_of i in
    let at = rw (c.as_slice.ensures.value, c.as_slice-2.ensures.value, c.as_slice-3.ensures.value) at c.entry_at.ensures
    ∙ stand-part_at i.whole b.history i.origins.items i.retired.items (slots b) c.args.number c.self.invariant.tree.stand in
    lent (λ (x : Bor Part). x.now) c.entry_at.result (part_at (slots b) c.args.number) (λ p. length p.region ≤ 2 ^ 48) at
    (λ p is. entry-few b i.whole i.origins.items i.retired.items i.counts i.totals c.args.number p c.self.invariant.tree is)
