use Rattle.std.proofs.Common.{◌≡◌, ◌+◌, List, [], ◌∷◌, ◌++◌, length, ap, sym, ◌∙◌, arith}
use Rattle.std.proofs.lemmas.List.{length-map}
use Rattle.prv_model.specs.declared.term.Term.{Term}
use Rattle.prv_pool.specs.Tables.{term_at}
use Rattle.prv_blast.specs.Subterms.{subterms}
use Rattle.prv_general.specs.Answers.{terms_at}
use Rattle.prv_part.specs.declared.part.Part.{Part}
use Rattle.prv_settle.specs.Supported.{parts_terms}
use Rattle.prv_settle.proofs.Gathering.{front-is, listed, whole-terms}
use Rattle.prv_settle.proofs.record.whole_parts.Goals as goal

pub returns : goal.returns
returns c =
    let cut = c.args.cut in
    let whole : List Term = terms_at cut.pool.terms cut.partition.items in
    let long = length-map cut.partition.items (term_at cut.pool.terms) in
    let all : cut.region + c.literals-literals.result ≡ length whole = omega arith in
    let first = c.in_ok-first.ensures ∙ front-is cut.region whole [] c.in_ok-terms.terms c.in_ok-terms.ensures (cut.region + c.literals-literals.result) all in
    let marks = c.as_slice-2.ensures.value ∙ c.in_ok-marks.ensures.items ∙ c.as_slice.ensures.value in
    let part : c.in_ok-decided_part.field-0 ≡ record { region = whole; kind = c.args.kind; marks = cut.marks.items } = c.in_ok-decided_part.ensures ∙ (λ i. record { region = first i; kind = c.args.kind; marks = marks i }) in
    let old : c.push.new.self.items ≡ record { region = whole; kind = c.args.kind; marks = cut.marks.items } ∷ [] = c.in_ok-push.ensures.items ∙ (λ i. c.new-list.ensures.items i ++ part i ∷ []) in
    let list = listed cut.region c.literals-literals.result whole [] c.in_ok-terms.terms c.in_ok-terms.ensures (omega arith) (omega arith) (cut.region + c.literals-literals.result) _ c.push.new.self.items c.add_rests.new.parts.items (omega arith) old c.in_ok-add_rests.ensures in
    record {
      list = list;
      terms =
          c.count.ensures
          ∙ ap (λ (ts : List Term). length (subterms ts)) c.in_ok-terms.ensures
          ∙ ap (λ (ts : List Term). length ts) (whole-terms cut.region whole c.args.kind cut.marks.items)
          ∙ sym (ap (λ (ps : List Part). length (parts_terms ps)) list);
    }
