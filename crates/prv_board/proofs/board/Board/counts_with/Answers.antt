use Rattle.std.proofs.Common.{◌∙◌, ℕ, List, length, ap, sym, subst, arith}
use Rattle.prv_part.specs.declared.part.Part.{Part}
use Rattle.prv_board.specs.Slots.{live_parts, part_at}
use Rattle.prv_board.specs.Counting.{IsWithin, IsSum}
use Rattle.prv_board.specs.Replays.{slots, counts_of}
use Rattle.prv_board.specs.declared.counts.Counts.{Counts}
use Rattle.prv_board.proofs.BoardLaws.{kind-within, left-small, counts-with}
use Rattle.prv_board.proofs.board.Board.counts_with.Goals as goal

pub minus-left-requires : goal.minus-left-requires
minus-left-requires c =
    let b = c.args.self.now.replay in
    let at = ap (λ (n : ℕ). part_at (slots b) n) (sym c.entry.ensures) ∙ sym c.in-Some.ensures.value in
    let P : Counts → Type 0 = λ k. IsWithin k (counts_of (live_parts (slots b))) in
    let Q : Counts → Type 0 = λ k. IsWithin c.of_kind.result k in
    subst Q (sym c.counts.ensures.value) (subst P (sym c.of_kind.ensures) (kind-within (slots b) c.args.settlement.now.entry c.in-Some.part.now at))

pub plus_parts-requires : goal.plus_parts-requires
plus_parts-requires c =
    let b = c.args.self.now.replay in
    let P : Counts → Type 0 = λ k. IsSum c.minus-left.result c.of_kind.result k in
    let few = ap (λ (ps : List Part). length ps) c.parts.ensures.value in
    left-small (live_parts (slots b)) c.parts.result.now c.of_kind.result c.minus-left.result (subst P c.counts.ensures.value c.minus-left.ensures) c.counts.ensures.few (omega (arith, few, c.parts.ensures.kept.few_parts))

pub returns : goal.returns
returns c =
    let b = c.args.self.now.replay in
    let at = ap (λ (n : ℕ). part_at (slots b) n) (sym c.entry.ensures) ∙ sym c.in-Some.ensures.value in
    let P : Counts → Type 0 = λ k. IsSum c.minus-left.result c.of_kind.result k in
    let Q : Counts → Type 0 = λ k. IsSum c.minus-left.result k (counts_of (live_parts (slots b))) in
    let R : List Part → Type 0 = λ ps. IsSum c.minus-left.result (counts_of ps) c.plus_parts.result in
    counts-with b c.args.settlement.now c.in-Some.part.now c.minus-left.result c.plus_parts.result at (subst Q c.of_kind.ensures (subst P c.counts.ensures.value c.minus-left.ensures)) (subst R c.parts.ensures.value c.plus_parts.ensures)
