use Rattle.std.proofs.Common.{◌≡◌, ◌+◌, List, [], ◌∷◌, ◌++◌, length, ap, sym, ◌∙◌, refl, arith}
use Rattle.std.proofs.lemmas.List.{length-map}
use Rattle.prv_model.specs.declared.term.Term.{Term}
use Rattle.prv_pool.specs.Tables.{term_at}
use Rattle.prv_blast.specs.Subterms.{subterms}
use Rattle.prv_general.specs.Answers.{terms_at}
use Rattle.prv_part.specs.declared.part.Part.{Part}
use Rattle.prv_settle.specs.Making.{claimed, second_of}
use Rattle.prv_settle.specs.Supported.{parts_terms}
use Rattle.prv_settle.proofs.Gathering.{half-first, half-second, listed, split-terms, second-region-of}
use Rattle.prv_settle.proofs.record.split_parts.Goals as goal

pub returns : goal.returns
returns c =
    let cut = c.args.halves.cut in
    let whole : List Term = terms_at cut.pool.terms cut.partition.items in
    let long = length-map cut.partition.items (term_at cut.pool.terms) in
    let a = term_at cut.pool.terms c.args.halves.first in
    let b = term_at cut.pool.terms c.args.halves.second in
    let all : cut.region + c.literals-literals.result ≡ length whole = omega arith in
    let half = c.in_ok-half.ensures ∙ half-first cut.region whole c.in_ok-terms.terms a b (cut.region + c.literals-literals.result) c.in_ok-terms.ensures all in
    let other = c.in_ok-half-2.ensures ∙ half-second cut.region whole c.in_ok-terms.terms a b (cut.region + c.literals-literals.result) c.in_ok-terms.ensures all in
    let kept = c.in_ok-marks.ensures.items ∙ c.as_slice.ensures.value in
    let marks = c.as_slice-2.ensures.value ∙ kept in
    let marks-too = c.as_slice-3.ensures.value ∙ kept in
    let one : Part = record { region = whole ++ a ∷ []; kind = claimed c.args.halves.agree c.args.member.now; marks = cut.marks.items } in
    let two : Part = second_of c.args.halves.agree c.args.other.now cut.marks.items (whole ++ b ∷ []) in
    let first : c.in_ok-decided_part.field-0 ≡ one = c.in_ok-decided_part.ensures ∙ (λ i. record { region = half i; kind = c.in_ok-kind.ensures i; marks = marks i }) in
    let second : c.in_ok-second_part.field-0 ≡ two = c.in_ok-second_part.ensures ∙ (λ i. second_of c.args.halves.agree c.args.other.now (marks-too i) (other i)) in
    let begun : c.push.new.self.items ≡ one ∷ [] = c.in_ok-push.ensures.items ∙ (λ i. c.new-list.ensures.items i ++ first i ∷ []) in
    let old : c.push-2.new.self.items ≡ one ∷ two ∷ [] = c.in_ok-push-2.ensures.items ∙ (λ i. begun i ++ second i ∷ []) in
    let list = listed cut.region c.literals-literals.result whole (a ∷ b ∷ []) c.in_ok-terms.terms c.in_ok-terms.ensures (omega arith) (omega arith) (cut.region + c.literals-literals.result + 2) (one ∷ two ∷ []) c.push-2.new.self.items c.add_rests.new.parts.items (omega arith) old c.in_ok-add_rests.ensures in
    record {
      list = list;
      terms =
          c.count.ensures
          ∙ ap (λ (ts : List Term). length (subterms ts)) c.in_ok-terms.ensures
          ∙ ap (λ (ts : List Term). length ts) (split-terms cut.region whole a b one two refl (second-region-of c.args.halves.agree c.args.other.now cut.marks.items (whole ++ b ∷ [])))
          ∙ sym (ap (λ (ps : List Part). length (parts_terms ps)) list);
    }
