-- How many bytes a record takes in the first form: numbers of 32 bits take four, and the kind, the shape and each choice take one.
use Rattle.std.specs.Prelude.{⊤, ℕ, ◌+◌, ◌*◌, ◌<◌, ◌^◌, List, length, ℤ, Option, Some, None, IfSome}
use Rattle.std.specs.List.{AllByRecursion}
use Rattle.prv_cnf.specs.Literals.{variable}
use Rattle.prv_cnf.specs.declared.literal.Lit.{Lit}
use Rattle.prv_model.specs.declared.entry.Reason.{Reason}
use Rattle.prv_model.specs.declared.entry.Reason.TheVariants as r
use Rattle.prv_check.specs.LogLines.{LogLine, line_numbers}
use Rattle.prv_check.specs.Spending.{log_numbers}
use Rattle.prv_part.specs.declared.shape.Shape.{Shape}
use Rattle.prv_part.specs.declared.shape.Shape.TheVariants.{Empty, Stuck, Whole, Split, Beyond}
use Rattle.prv_record.specs.declared.raw.Raw.{Raw}
use Rattle.prv_record.specs.declared.raw.RawOther.{RawOther}
use Rattle.prv_record.specs.declared.raw.RawOther.TheVariants as o
use Rattle.prv_record.specs.declared.raw.Proof.{Proof}
use Rattle.prv_record.specs.declared.raw.Proof.TheVariants as p

-- an input: the count of its words, in one byte, and the words
abbrev pub input_length : List ℤ → ℕ
input_length x = 1 + 4 * length x

abbrev pub member_length : Option (List ℤ) → ℕ
member_length None = 0
member_length (Some x) = input_length x

-- a line: its literals and hints, and their two counts
abbrev pub line_length : LogLine → ℕ
line_length s = 4 * line_numbers s

abbrev pub next_length : Option LogLine → ℕ
next_length None = 0
next_length (Some s) = line_length s

-- a log: the count of its lines, and the lines
abbrev pub log_length : List LogLine → ℕ
log_length log = 4 + 4 * log_numbers log

abbrev pub proof_length : Proof → ℕ
proof_length p.None = 0
proof_length (p.Log log) = log_length log
proof_length (p.Spent log next) = log_length log + next_length next

-- a reason, behind the byte that names it: a budget has 32 bits, a cost has 64, and how many lines a log has is said by the log
abbrev pub reason_length : Reason → ℕ
reason_length (r.Lines budget) = 4
reason_length (r.Numbers lines) = 0
reason_length (r.Clauses count) = 8
reason_length r.Wide = 0
reason_length r.Literals = 0

abbrev pub other_length : RawOther → ℕ
other_length o.None = 0
other_length (o.Member x) = input_length x
other_length (o.Reason why) = reason_length why

-- the byte that says what follows, where a shape leaves a choice
abbrev pub choice_length : Shape → ℕ
choice_length Empty = 0
choice_length Stuck = 1
choice_length Whole = 1
choice_length Split = 1
choice_length Beyond = 0

-- the kind, the entry and the shape, and then what the shape has
abbrev pub payload_length : Raw → ℕ
payload_length raw = 6 + choice_length raw.shape + member_length raw.member + other_length raw.other + proof_length raw.proof

-- ---- records that are no longer in the second form but by what the entry and the inputs take

abbrev pub IsSmallLiteral : Lit → Type 0
IsSmallLiteral l = variable l < 2 ^ 27

-- neither a literal nor a hint takes more than four bytes in the second form
pub record IsSmallLine (s : LogLine) : Type 0 where
  pub literals : AllByRecursion IsSmallLiteral s.clause
  pub hints : AllByRecursion (λ n. n < 2 ^ 28) s.hints

abbrev pub HasSmallLines : Proof → Type 0
HasSmallLines p.None = ⊤
HasSmallLines (p.Log log) = AllByRecursion IsSmallLine log
HasSmallLines (p.Spent log next) = AllByRecursion IsSmallLine log × IfSome next IsSmallLine
