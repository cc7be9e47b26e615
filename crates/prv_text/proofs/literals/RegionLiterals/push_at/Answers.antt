use Rattle.std.proofs.Common.{◌++◌, ◌<◌, List, length, map, sym, ap, ◌∙◌, arith}
use Rattle.std.proofs.lemmas.List.{length-map}
use Rattle.prv_model.specs.declared.term.Term.{Term}
use Rattle.prv_pool.specs.Tables.{term_at}
use Rattle.prv_text.specs.Terms.{literal_text}
use Rattle.prv_text.proofs.Conditions.{term_at-mapped}
use Rattle.prv_text.proofs.Writing.{on-ok}
use Rattle.prv_text.proofs.literals.RegionLiterals.push_at.Goals as goal

pub returns : goal.returns
returns c =
    let old = c.args.out.now.items in
    let names = c.args.names.now in
    let place = c.args.place in
    let roots = c.parts-parts.result.roots.now in
    let at = term_at c.parts-parts.result.pool.now.terms in
    let many = ap (λ (ts : List Term). length ts) c.parts-parts.ensures.value ∙ length-map roots at in
    let less : place < length roots = omega (arith, many) in
    let same = ap (λ (ts : List Term). term_at ts place) c.parts-parts.ensures.value ∙ term_at-mapped at roots place 0 less in
    on-ok c.push_node.result (λ written. written ∙ ap (λ (t : Term). old ++ literal_text names t) (sym same)) c.push_node.ensures
