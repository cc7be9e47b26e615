use Rattle.std.proofs.Common.{ℕ, List, ◌++◌, length, map, flat_map, codes, decimal, ap, sym, ◌∙◌}
use Rattle.std.proofs.lemmas.List.{length-map}
use Rattle.std.proofs.lemmas.List.Folds.{flat_map-map}
use Rattle.prv_model.specs.declared.term.Term.{Term}
use Rattle.prv_pool.specs.Tables.{term_at}
use Rattle.prv_text.specs.Lines.{line}
use Rattle.prv_text.specs.Terms.{literal_text}
use Rattle.prv_text.specs.Entries.{marks_text}
use Rattle.prv_text.specs.Outcomes.{end_lines}
use Rattle.prv_text.specs.Slices.{out_text}
use Rattle.prv_text.proofs.Mapped.{end_lines-mapped}
use Rattle.prv_text.proofs.slice.slice_text.Goals as goal

pub returns : goal.returns
returns c =
    let names = c.args.names.now in
    let term = term_at c.args.pool.now.terms in
    let header = λ (count : ℕ). line (codes "literals " ++ decimal count) in
    let literal = λ (t : Term). line (literal_text names t) in
    let count = length c.args.literals.now in
    let lines = flat_map (λ (n : ℕ). literal (term n)) c.args.literals.now in
    let end = end_lines (λ (n : ℕ). out_text names (term n)) c.args.how c.args.outs.now in
    let marks = line (codes "marks " ++ marks_text c.args.marks.now) in
    let e1 = c.in_ok-push_count.ensures ∙ ap (λ (zs : List ℕ). zs ++ header count) c.new-out.ensures.items in
    let e2 = c.in_ok-push_literals.ensures ∙ ap (λ (zs : List ℕ). zs ++ lines) e1 in
    let e3 = c.in_ok-push_end.ensures ∙ ap (λ (zs : List ℕ). zs ++ end) e2 in
    let e4 = c.in_ok-push_marks_line.ensures ∙ ap (λ (zs : List ℕ). zs ++ marks) e3 in
    let lines_are = sym (flat_map-map literal term c.args.literals.now) in
    let end_is = sym (end_lines-mapped (out_text names) term c.args.how c.args.outs.now) in
    e4
    ∙ ap (λ (k : ℕ). header k ++ lines ++ end ++ marks) (sym (length-map c.args.literals.now term))
    ∙ ap (λ (zs : List ℕ). header (length (map term c.args.literals.now)) ++ zs ++ end ++ marks) lines_are
    ∙ ap (λ (zs : List ℕ). header (length (map term c.args.literals.now)) ++ flat_map literal (map term c.args.literals.now) ++ zs ++ marks) end_is
