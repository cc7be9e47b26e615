use Rattle.std.proofs.Common.{◌++◌, ◌∷◌, [], ◌∙◌, refl, List, Option, length, map, ap, sym, subst, arith}
use Rattle.std.specs.Arc.{arc_value}
use Rattle.prv_board.specs.Kept.{replay_of, seen}
use Rattle.prv_part.specs.declared.part.Part.{Part}
use Rattle.prv_part.specs.Settlements.{Finding, IsSettlement}
use Rattle.prv_board.specs.Slots.{live_parts}
use Rattle.prv_board.specs.Trees.{not_retired}
use Rattle.prv_board.specs.declared.tree.Retired.{Retired}
use Rattle.prv_board.specs.Replays.{BoardView, slots, totals, counts_of, with_one_more}
use Rattle.prv_board.specs.declared.totals.Totals.{Totals}
use Rattle.prv_board.proofs.SlotLaws.{length-map}
use Rattle.prv_board.proofs.KeptLaws.{stand-length, entry-within, few-settlements, applies-same, tree-ready}
use Rattle.prv_board.proofs.ParentLaws.{map-append}
use Rattle.prv_board.proofs.board.Board.apply_ready.Goals as goal

pub overflow_cast-place : goal.overflow_cast-place
overflow_cast-place c =
    let i = c.self.inside in
    let k = c.self.invariant.tree in
    let sums = ap (λ (t : Totals). t.numbers) k.totals in
    omega (arith, few-settlements (replay_of i).history k.settlements, sums, k.fits.numbers, k.caps.few_numbers, c.len-place.ensures, i.settlements.ok, length-map (λ s. arc_value s) i.settlements.items)

pub retire-requires : goal.retire-requires
retire-requires c =
    let i = c.self.inside in
    let k = c.self.invariant.tree in
    let applies = applies-same (seen i) c.args.self.now (arc_value c.args.settlement) (arc_value c.args.settlement) c.self.view_is refl c.requires.applies in
    omega (arith, entry-within i.whole (replay_of i).history i.origins.items i.retired.items (slots (replay_of i)) (arc_value c.args.settlement) k.stand applies.belongs.same_region, c.entry-entry.ensures, ap (λ s. s.entry) c.deref-3.ensures, i.retired.ok)

pub invariant_of-self : goal.invariant_of-self
invariant_of-self c =
    let i = c.self.inside in
    let b = replay_of i in
    let s = arc_value c.args.settlement in
    let P : Finding → Type 0 = λ f. IsSettlement f in
    let settled = subst P c.deref-4.ensures c.parts.ensures.kept in
    let applies = applies-same (seen i) c.args.self.now s s c.self.view_is refl c.requires.applies in
    let counted =
    c.counts_with-counts.ensures ∙ ap (λ (v : BoardView). counts_of (live_parts (slots (with_one_more v.replay c.deref.result.now)))) (sym c.self.view_is)
    ∙ ap (λ (f : Finding). counts_of (live_parts (slots (with_one_more b f)))) c.deref.ensures in
    let summed =
    c.totals_with-totals.ensures ∙ ap (λ (v : BoardView). totals (with_one_more v.replay c.deref-2.result.now)) (sym c.self.view_is) ∙ ap (λ (f : Finding). totals (with_one_more b f)) c.deref-2.ensures in
    let spare = ap (λ (v : BoardView). v.spare) c.self.view_is in
    let count = ap (λ (ps : List Part). length ps) c.parts.ensures.value ∙ ap (λ (f : Finding). length f.parts) c.deref-4.ensures in
    record {
      tree =
          tree-ready b i.whole i.origins.items c.add_origins.new.origins.items i.retired.items c.add_live.new.retired.items i.counts i.totals s c.counts_with-counts.result c.totals_with-totals.result
          (map (λ s. arc_value s) c.push_reserved.new.self.items) c.len-place.result c.len-first.result c.entry-entry.result (length c.parts.result.now) c.self.invariant.tree applies settled counted summed
          (omega (arith, c.len-place.ensures, i.settlements.ok, length-map (λ s. arc_value s) i.settlements.items))
          (omega (arith, c.len-first.ensures, i.origins.ok))
          (c.entry-entry.ensures ∙ ap (λ (f : Finding). f.entry) c.deref-3.ensures)
          count
          (ap (λ ss. map (λ s. arc_value s) ss) c.push_reserved.ensures.items ∙ map-append (λ s. arc_value s) i.settlements.items (c.args.settlement ∷ []))
          c.add_origins.ensures.items
          (c.add_live.ensures.items ∙ ap (λ (rs : List (Option Retired)). rs ++ not_retired (length c.parts.result.now)) c.retire.ensures.items);
      room_in_origins = omega (arith, spare, count, c.requires.room, c.self.invariant.room_in_origins, c.add_origins.ensures.len, c.add_origins.ensures.capacity);
      room_in_retired = omega (arith, spare, count, c.requires.room, c.self.invariant.room_in_retired, c.add_live.ensures.len, c.add_live.ensures.capacity, c.retire.ensures.len, c.retire.ensures.capacity);
      room_for_one = λ some. absurd (omega arith);
    }

pub returns-clause-first : goal.returns-clause-first
returns-clause-first c =
    let i = c.self.inside in
    rw (← c.self.view_is)
    (omega (arith, c.len-first.ensures, i.origins.ok, (stand-length i.whole (replay_of i).history i.origins.items i.retired.items (slots (replay_of i)) c.self.invariant.tree.stand).0))
