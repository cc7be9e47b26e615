-- The text of a slice.
use Rattle.std.specs.Prelude.{ℕ, List, ◌++◌, length, flat_map, codes, decimal}
use Rattle.prv_model.specs.declared.outcome.Ending.{Ending}
use Rattle.prv_model.specs.declared.term.Term.{Term}
use Rattle.prv_text.specs.Lines.{line}
use Rattle.prv_text.specs.Terms.{term_text, literal_text}
use Rattle.prv_text.specs.Entries.{marks_text}
use Rattle.prv_text.specs.Outcomes.{end_lines}

-- a term that is put out, cut after 65,536 bytes
abbrev pub out_text : List (List ℕ) → Term → List ℕ
out_text names t = term_text 65536 names t

-- how many conditions there are, a line for each, what is put out and how it ends where they hold, and the marks
abbrev pub slice_text : List (List ℕ) → List Term → List Term → Ending → List ℕ → List ℕ
slice_text names literals outs how marks =
    line (codes "literals " ++ decimal (length literals))
    ++ flat_map (λ t. line (literal_text names t)) literals
    ++ end_lines (out_text names) how outs
    ++ line (codes "marks " ++ marks_text marks)
