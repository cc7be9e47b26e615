use Rattle.std.proofs.Common.{sym, subst}
use Rattle.prv_board.specs.Counting.{AreSmall}
use Rattle.prv_board.specs.declared.counts.Counts.{Counts}
use Rattle.prv_text.proofs.Counting.{small-next}
use Rattle.prv_text.proofs.counts.count_entries.Goals as goal

pub plus-counts-requires : goal.plus-counts-requires
plus-counts-requires c =
    let l = c.loop-entry in
    subst (λ (k : Counts). AreSmall l.counts k) (sym c.of_kind.ensures) (small-next l.counts c.args.entries.now l.entry-index c.entry-item.result c.loop-entry-test.true c.entry-item.is c.requires l.invariant)
