use Rattle.std.proofs.Common.{◌++◌, ◌<◌, List, length, sym, ap, ◌∙◌, arith}
use Rattle.prv_model.specs.declared.term.Term.{Term}
use Rattle.prv_pool.specs.Tables.{term_at}
use Rattle.prv_text.specs.Terms.{literal_text}
use Rattle.prv_text.proofs.Conditions.{term_at-read}
use Rattle.prv_text.proofs.Writing.{on-ok}
use Rattle.prv_text.proofs.literals.ItemsTermLiterals.push_at.Goals as goal

pub returns : goal.returns
returns c =
    let old = c.args.out.now.items in
    let names = c.args.names.now in
    let place = c.args.place in
    let terms = c.as_slice.result.now in
    let less : place < length terms = omega (arith, ap (λ (ts : List Term). length ts) c.as_slice.ensures) in
    let same = ap (λ (ts : List Term). term_at ts place) (sym c.as_slice.ensures) ∙ term_at-read terms place c.index-as_slice-place.result less ∙ sym c.index-as_slice-place.is in
    on-ok c.push_literal.result (λ written. written ∙ ap (λ (t : Term). old ++ literal_text names t) (sym same)) c.push_literal.ensures
