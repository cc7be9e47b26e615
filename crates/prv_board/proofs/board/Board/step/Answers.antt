use Rattle.std.proofs.Common.{◌≡◌, ◌+◌, ◌<◌, ◌∙◌, List, length, slice_get, ap, sym, subst, arith}
use Rattle.std.proofs.lemmas.Option.{slice_get_within}
use Rattle.std.specs.Arc.{arc_value}
use Rattle.prv_model.specs.Terms.{holds}
use Rattle.prv_part.specs.Settlements.{Finding}
use Rattle.prv_board.specs.Paths.{IsStep}
use Rattle.prv_board.specs.Replays.{BoardView, slots}
use Rattle.prv_board.specs.Kept.{replay_of, seen}
use Rattle.prv_board.proofs.SlotLaws.{length-map}
use Rattle.prv_board.proofs.KeptLaws.{stand-length}
use Rattle.prv_board.proofs.FindLaws.{way-known, stands-for, alone-here, holds-within}
use Rattle.prv_board.proofs.board.Board.step.Goals as goal

pub index-settlement-requires : goal.index-settlement-requires
index-settlement-requires c =
    let i = c.self.inside in
    let way = way-known (seen i) c.args.self.now i.whole i.origins.items i.retired.items c.as_slice.result.now i.counts i.totals c.args.input.now c.args.number c.in-Some.by c.self.view_is c.self.invariant.tree c.as_slice.ensures.value c.in-Some.ensures c.requires.here in
    omega (arith, slice_get_within (replay_of i).history c.in-Some.by.settlement way.settlement way.applied, length-map (λ s. arc_value s) i.settlements.items, i.settlements.ok)

pub part_of-requires-clause-inside : goal.part_of-requires-clause-inside
part_of-requires-clause-inside c =
    let i = c.self.inside in
    let way = way-known (seen i) c.args.self.now i.whole i.origins.items i.retired.items c.as_slice.result.now i.counts i.totals c.args.input.now c.args.number c.in-Some.by c.self.view_is c.self.invariant.tree c.as_slice.ensures.value c.in-Some.ensures c.requires.here in
    let less : c.in-Some.by.settlement < length i.settlements.items = omega (arith, slice_get_within (replay_of i).history c.in-Some.by.settlement way.settlement way.applied, length-map (λ s. arc_value s) i.settlements.items, i.settlements.ok) in
    let same : c.deref.result.now ≡ way.settlement = c.deref.ensures ∙ stands-for (λ s. arc_value s) i.settlements.items c.in-Some.by.settlement c.index-settlement.result.now way.settlement less c.index-settlement.ensures way.applied in
    ap (λ (s : Finding). holds s.region c.args.input.now) same ∙ way.inside

pub overflow_add-result : goal.overflow_add-result
overflow_add-result c =
    let i = c.self.inside in
    let b = replay_of i in
    let way = way-known (seen i) c.args.self.now i.whole i.origins.items i.retired.items c.as_slice.result.now i.counts i.totals c.args.input.now c.args.number c.in-Some.by c.self.view_is c.self.invariant.tree c.as_slice.ensures.value c.in-Some.ensures c.requires.here in
    let less : c.in-Some.by.settlement < length i.settlements.items = omega (arith, slice_get_within (replay_of i).history c.in-Some.by.settlement way.settlement way.applied, length-map (λ s. arc_value s) i.settlements.items) in
    let is : c.deref.result.now ≡ way.settlement = c.deref.ensures ∙ stands-for (λ s. arc_value s) i.settlements.items c.in-Some.by.settlement c.index-settlement.result.now way.settlement less c.index-settlement.ensures way.applied in
    let found = c.part_of.ensures.part in
    let down = way.steps c.part_of.result found.part (ap (λ (s : Finding). slice_get s.parts c.part_of.result) (sym is) ∙ found.at) found.inside in
    let within = holds-within (slots b) c.args.input.now (c.in-Some.by.first + c.part_of.result) down.holds in
    let tree = c.self.invariant.tree in
    omega (arith, within, (stand-length i.whole b.history i.origins.items i.retired.items (slots b) tree.stand).0, tree.few_made, tree.fits.numbers, tree.caps.few_numbers)

pub returns-in-Some-clause-step : goal.returns-in-Some-clause-step
returns-in-Some-clause-step c =
    let i = c.self.inside in
    let way = way-known (seen i) c.args.self.now i.whole i.origins.items i.retired.items c.as_slice.result.now i.counts i.totals c.args.input.now c.args.number c.in-Some.by c.self.view_is c.self.invariant.tree c.as_slice.ensures.value c.in-Some.ensures c.requires.here in
    let less : c.in-Some.by.settlement < length i.settlements.items = omega (arith, slice_get_within (replay_of i).history c.in-Some.by.settlement way.settlement way.applied, length-map (λ s. arc_value s) i.settlements.items) in
    let is : c.deref.result.now ≡ way.settlement = c.deref.ensures ∙ stands-for (λ s. arc_value s) i.settlements.items c.in-Some.by.settlement c.index-settlement.result.now way.settlement less c.index-settlement.ensures way.applied in
    let found = c.part_of.ensures.part in
    let down = way.steps c.part_of.result found.part (ap (λ (s : Finding). slice_get s.parts c.part_of.result) (sym is) ∙ found.at) found.inside in
    let P : BoardView → Type 0 = λ v. IsStep v.replay c.args.input.now c.args.number (c.in-Some.by.first + c.part_of.result) in
    subst P c.self.view_is down

pub returns-in-None-clause-step : goal.returns-in-None-clause-step
returns-in-None-clause-step c =
    let i = c.self.inside in
    alone-here (seen i) c.args.self.now i.whole i.origins.items i.retired.items c.as_slice.result.now i.counts i.totals c.args.input.now c.args.number c.self.view_is c.self.invariant.tree c.as_slice.ensures.value c.in-None.ensures c.requires.arity
    c.as_slice-words.ensures.words c.requires.inside c.requires.here
