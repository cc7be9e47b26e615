use Rattle.std.proofs.Common.{length, arith, ap, ◌∙◌, List}
use Rattle.prv_part.specs.declared.part.Part.{Part}
use Rattle.prv_pool.specs.Tables.{term_at}
use Rattle.prv_board.specs.Replays.{slots, literals_of}
use Rattle.prv_board.specs.declared.totals.Totals.{Totals}
use Rattle.prv_board.proofs.KeptLaws.{live-some, literals-sum, roots-length}
use Rattle.prv_board.proofs.BoardLaws.{totals-with, region-within}
use Rattle.prv_board.proofs.board.Board.totals_with.Goals as goal

pub overflow_sub-result : goal.overflow_sub-result
overflow_sub-result c =
    let e = ap (λ (t : Totals). t.entries) c.totals-now.ensures.value in
    omega (arith, e, live-some (slots c.args.self.now.replay) c.args.settlement.now c.requires.same_region)

pub overflow_sub-result-2 : goal.overflow_sub-result-2
overflow_sub-result-2 c =
    let e = ap (λ (t : Totals). t.literals) c.totals-now.ensures.value in
    let r = roots-length c.region.result.now (term_at c.parts.result.pool.now.terms) c.parts.result.roots.now c.parts.ensures.value ∙ ap length c.region.ensures in
    omega (arith, e, r, region-within c.args.self.now.replay c.args.settlement.now c.requires.same_region)

pub literals-requires : goal.literals-requires
literals-requires c =
    let e = ap (λ (ps : List Part). literals_of ps) c.parts-parts.ensures.value in
    omega (arith, e, literals-sum c.args.settlement.now.parts, c.parts-parts.ensures.kept.few_literals)

pub overflow_add-result-4 : goal.overflow_add-result-4
overflow_add-result-4 c =
    let e = ap (λ (ps : List Part). literals_of ps) c.parts-parts.ensures.value in
    omega (arith, e, c.literals.ensures, literals-sum c.args.settlement.now.parts, c.parts-parts.ensures.kept.few_literals, c.totals-now.ensures.fits.literals, c.totals-now.ensures.caps.few_literals)

pub returns : goal.returns
returns c =
    let b = c.args.self.now.replay in
    let s = c.args.settlement.now in
    let en = ap (λ (t : Totals). t.entries) c.totals-now.ensures.value in
    let nu = ap (λ (t : Totals). t.numbers) c.totals-now.ensures.value in
    let li = ap (λ (t : Totals). t.literals) c.totals-now.ensures.value in
    let count = ap length c.parts-parts.ensures.value in
    let own = ap (λ (ps : List Part). literals_of ps) c.parts-parts.ensures.value in
    let r = roots-length c.region.result.now (term_at c.parts.result.pool.now.terms) c.parts.result.roots.now c.parts.ensures.value ∙ ap length c.region.ensures in
    totals-with b s _ c.requires.same_region
    (omega (arith, en, count, live-some (slots b) s c.requires.same_region))
    (omega (arith, nu, count, c.numbers.ensures))
    (omega (arith, li, own, r, c.literals.ensures, region-within b s c.requires.same_region))
