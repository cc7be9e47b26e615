-- The texts of terms, made with a limit.
use Rattle.std.specs.Prelude.{ℕ, Bool, true, false, List, [], ◌++◌, length, take, slice_get, unwrap_or, nat_le, if◌then◌else◌, codes}
use Rattle.std.specs.Fmt.{signed_decimal}
use Rattle.prv_model.specs.declared.op.TermOp.{TermOp}
use Rattle.prv_model.specs.declared.op.TermOp.TheVariants.{Add, Sub, Mul, Div, Rem, Shl, Shr, And, Or, Xor, Lt, Le, Eq, Ne}
use Rattle.prv_model.specs.declared.term.Term.{Term}
use Rattle.prv_model.specs.declared.term.Term.TheOpen.{Term-F}
use Rattle.prv_model.specs.declared.term.Term.TheFolds.{fold-Term}

-- how an operator is written
abbrev pub symbol : TermOp → List ℕ
symbol Add = codes "+"
symbol Sub = codes "-"
symbol Mul = codes "*"
symbol Div = codes "/"
symbol Rem = codes "%"
symbol Shl = codes "<<"
symbol Shr = codes ">>"
symbol And = codes "&"
symbol Or = codes "|"
symbol Xor = codes "^"
symbol Lt = codes "<"
symbol Le = codes "<="
symbol Eq = codes "=="
symbol Ne = codes "!="

-- the text of a term, and whether it stands in parentheses as an operand
pub record Spelled : Type 0 where
  pub text : List ℕ
  pub compound : Bool

-- the text of an operand
abbrev pub operand : Spelled → List ℕ
operand s = if s.compound then codes "(" ++ s.text ++ codes ")" else s.text

-- an operator with a blank on each side
abbrev pub between : TermOp → List ℕ
between op = codes " " ++ symbol op ++ codes " "

-- the name of a parameter
abbrev pub name_of : List (List ℕ) → ℕ → List ℕ
name_of names k = unwrap_or (slice_get names k) []

-- one node, with the text of each child in its place
abbrev pub node_spelled : List (List ℕ) → Term-F Spelled → Spelled
node_spelled names (Term-F.Param k) = record { text = name_of names k; compound = false }
node_spelled names (Term-F.Op op a b) = record { text = operand a ++ between op ++ operand b; compound = true }
node_spelled names (Term-F.Pick test chosen other) = record { text = operand test ++ codes " ? " ++ operand chosen ++ codes " : " ++ operand other; compound = true }
node_spelled names (Term-F.Num n) = record { text = signed_decimal n; compound = false }

-- a term, written infix
abbrev pub spelled : List (List ℕ) → Term → Spelled
spelled names = fold-Term Spelled (node_spelled names)

-- a text, cut after so many bytes
abbrev pub cut : ℕ → List ℕ → List ℕ
cut limit text = if nat_le (length text) limit then text else take limit text ++ codes ".."

-- the text of a term, cut after so many bytes
abbrev pub term_text : ℕ → List (List ℕ) → Term → List ℕ
term_text limit names t = cut limit (spelled names t).text

-- a literal of a condition
abbrev pub literal_text : List (List ℕ) → Term → List ℕ
literal_text names t = term_text 80 names t
