-- The line of an entry.
use Rattle.std.specs.Prelude.{ℕ, ◌==◌, List, [], ◌∷◌, ◌++◌, length, take, ℤ, nat_le, if◌then◌else◌, codes, decimal}
use Rattle.std.specs.Fmt.{signed_decimal}
use Rattle.prv_model.specs.declared.term.Term.{Term}
use Rattle.prv_model.specs.declared.entry.Reason.{Reason}
use Rattle.prv_model.specs.declared.entry.Reason.TheVariants.{Lines, Numbers, Clauses, Wide, Literals}
use Rattle.prv_model.specs.declared.entry.Kind.{Kind}
use Rattle.prv_model.specs.declared.entry.Kind.TheVariants.{Same, Different, Empty, Beyond, Unexplored, Undecided}
use Rattle.prv_model.specs.declared.entry.Entry.{Entry}
use Rattle.prv_text.specs.Lines.{line, listed}
use Rattle.prv_text.specs.Terms.{literal_text}

-- what stands behind the first 32 of so many literals
abbrev pub more_text : ℕ → List ℕ
more_text count = if nat_le count 32 then [] else codes " ; .."

-- the condition of a region: the first 32 of its literals
abbrev pub condition : List (List ℕ) → List Term → List ℕ
condition names terms = if length terms == 0 then codes "true" else listed (literal_text names) (codes " ; ") (take 32 terms) ++ more_text (length terms)

-- marks, or the word for no marks
abbrev pub marks_text : List ℕ → List ℕ
marks_text [] = codes "none"
marks_text (mark ∷ rest) = listed decimal (codes ",") (mark ∷ rest)

-- the words of an input
abbrev pub words_text : List ℤ → List ℕ
words_text x = listed signed_decimal (codes " ") x

-- why nothing was decided
abbrev pub reason_text : Reason → List ℕ
reason_text (Lines budget) = codes "lines " ++ decimal budget
reason_text (Numbers lines) = codes "numbers " ++ decimal lines
reason_text (Clauses count) = codes "clauses " ++ decimal count
reason_text Wide = codes "nodes"
reason_text Literals = codes "literals"

-- a claim, with the marks of its entry
abbrev pub kind_text : Kind → List ℕ → List ℕ
kind_text Same marks = codes "same marks " ++ marks_text marks
kind_text (Different sample) marks = codes "different at " ++ words_text sample ++ codes " marks " ++ marks_text marks
kind_text Empty marks = codes "empty"
kind_text Beyond marks = codes "beyond marks " ++ marks_text marks
kind_text Unexplored marks = codes "open"
kind_text (Undecided reason) marks = codes "undecided " ++ reason_text reason

-- the line of an entry
abbrev pub entry_line : List (List ℕ) → Entry → List ℕ
entry_line names e = line (decimal e.number ++ codes " " ++ kind_text e.kind e.marks ++ codes ": " ++ condition names e.terms)
