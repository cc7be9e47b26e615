use Rattle.std.proofs.Common.{◌≡◌, ◌<◌, ◌∙◌, List, length, get_or, Some, slice_get, ap, sym, subst, arith}
use Rattle.std.proofs.lemmas.Option.{slice_get-get_or}
use Rattle.prv_pool.specs.Tables.{term_at}
use Rattle.prv_part.specs.Holders.{HoldsPart, part_without}
use Rattle.prv_part.specs.declared.part.Part.{Part}
use Rattle.prv_part.proofs.Holding.{some-parts, settled-named, roots-many}
use Rattle.prv_part.proofs.settlement.Settlement.part_of.Goals as goal

pub part_without-requires-clause-behind : goal.part_without-requires-clause-behind
part_without-requires-clause-behind c =
    let f = c.args.self.now in
    let ps = c.parts.result.now in
    let first : Part = get_or ps 0 c.index-parts-0.result in
    let some : 0 < length ps = omega (arith, some-parts f c.parts.ensures.kept, ap (λ (qs : List Part). length qs) c.parts.ensures.value) in
    let at : slice_get f.parts 0 ≡ Some first = ap (λ (qs : List Part). slice_get qs 0) (sym c.parts.ensures.value) ∙ slice_get-get_or ps 0 c.index-parts-0.result some in
    let named = settled-named f c.args.input.now c.in-Some.place first c.parts.ensures.kept c.requires.inside at c.in-Some.ensures.place in
    let known = roots-many c.region.result.now (term_at c.parts-2.result.pool.now.terms) c.parts-2.result.roots.now c.parts-2.ensures.value ∙ ap length c.region.ensures in
    omega (arith, known, named.past)

pub overflow_cast-result : goal.overflow_cast-result
overflow_cast-result c =
    let f = c.args.self.now in
    let ps = c.parts.result.now in
    let first : Part = get_or ps 0 c.index-parts-0.result in
    let some : 0 < length ps = omega (arith, some-parts f c.parts.ensures.kept, ap (λ (qs : List Part). length qs) c.parts.ensures.value) in
    let at : slice_get f.parts 0 ≡ Some first = ap (λ (qs : List Part). slice_get qs 0) (sym c.parts.ensures.value) ∙ slice_get-get_or ps 0 c.index-parts-0.result some in
    let named = settled-named f c.args.input.now c.in-Some.place first c.parts.ensures.kept c.requires.inside at c.in-Some.ensures.place in
    let known = roots-many c.region.result.now (term_at c.parts-2.result.pool.now.terms) c.parts-2.result.roots.now c.parts-2.ensures.value ∙ ap length c.region.ensures in
    let all = roots-many first.region (term_at c.parts-3.result.pool.now.terms) c.parts-3.result.roots.now c.parts-3.ensures.value in
    let same : c.part_without.result ≡ part_without f.shape (length f.region) (length first.region) c.in-Some.place = c.part_without.ensures ∙ (λ i. part_without (c.shape.ensures i) (known i) (all i) c.in-Some.place) in
    omega (arith, same, named.few, c.parts.ensures.kept.few_parts)

pub returns-clause-part : goal.returns-clause-part
returns-clause-part c =
    let f = c.args.self.now in
    let ps = c.parts.result.now in
    let first : Part = get_or ps 0 c.index-parts-0.result in
    let some : 0 < length ps = omega (arith, some-parts f c.parts.ensures.kept, ap (λ (qs : List Part). length qs) c.parts.ensures.value) in
    let at : slice_get f.parts 0 ≡ Some first = ap (λ (qs : List Part). slice_get qs 0) (sym c.parts.ensures.value) ∙ slice_get-get_or ps 0 c.index-parts-0.result some in
    let named = settled-named f c.args.input.now c.in-Some.place first c.parts.ensures.kept c.requires.inside at c.in-Some.ensures.place in
    let known = roots-many c.region.result.now (term_at c.parts-2.result.pool.now.terms) c.parts-2.result.roots.now c.parts-2.ensures.value ∙ ap length c.region.ensures in
    let all = roots-many first.region (term_at c.parts-3.result.pool.now.terms) c.parts-3.result.roots.now c.parts-3.ensures.value in
    let same : c.part_without.result ≡ part_without f.shape (length f.region) (length first.region) c.in-Some.place = c.part_without.ensures ∙ (λ i. part_without (c.shape.ensures i) (known i) (all i) c.in-Some.place) in
    subst (λ n. HoldsPart f.parts c.args.input.now n) (sym same) named.held
